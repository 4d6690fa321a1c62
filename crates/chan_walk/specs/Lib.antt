-- The rules: what a job is, and which programs are refused.
pub mod Job
pub mod Place
pub mod Reason
pub mod ProgramCheck
pub mod Argument
pub mod Fault
pub mod Successor
pub mod Reachable
pub mod Guarded
pub mod Verdict
-- The machine: what a program does while it runs.
pub mod Machine
pub mod Free
pub mod Runs
-- The laws: what a verdict means for every run.
pub mod Headline
pub mod Alarm
pub mod Harm
pub mod RealRuns
pub mod VerdictBytes
pub mod Order
pub mod OpenJob
-- What the answers say: places, offences, paths, and what is moved.
pub mod Limit
pub mod Places
pub mod Answers
pub mod Offence
pub mod Paths
pub mod Seeks
pub mod Setting
pub mod Moved
-- What only ties the code to all this.
pub mod Direction
pub mod Visit
pub mod Operand
pub mod Evidence
pub mod Tables
pub mod Marks
pub mod PlaceTable
pub mod Walk
pub mod Lent
pub mod Lending
pub mod Guard
pub mod Look
pub mod JobSurvey
