-- What is found of a job that was judged.
use Rattle.std.specs.Prelude.{◌≡◌, ℕ, List, Option, None, Some}
use Rattle.chan_walk.specs.JobSurvey.{IsSurvey}
use Rattle.chan_walk.specs.Offence.{first_verdict}
use Rattle.chan_walk.specs.declared.offence.Offence.{Offence}
use Rattle.chan_walk.specs.declared.verdict.Verdict.{Verdict}
use Rattle.chan_walk.specs.declared.verdict.Verdict.TheVariants.{No}
use Rattle.chan_why.specs.Witness.{IsWitnessOf, offence_at}
use Rattle.chan_why.specs.declared.findings.Findings.{Findings}

-- the offence that is asked about, if one is at the address
abbrev pub requested_offence : List Offence → Option ℕ → Option Offence
requested_offence os (Some a) = offence_at a os
requested_offence os None = None

-- the verdict whose witness is shown: that of the offence that is asked about, or of the first
abbrev pub shown_verdict : List Offence → Option Offence → Verdict
shown_verdict os None = first_verdict os
shown_verdict os (Some o) = No o.place.address o.reason

-- they are those of the job's survey
pub record AreFindings (f : Findings) : Type 0 where
  pub survey : IsSurvey f.job.now f.survey
  pub requested : f.requested ≡ requested_offence f.survey.offences f.asked
  pub witness : IsWitnessOf f.job.now (shown_verdict f.survey.offences f.requested) f.witness
