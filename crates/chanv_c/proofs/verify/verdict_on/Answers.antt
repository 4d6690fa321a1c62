-- What `verify` says of the job is said of what C asks about.
use Rattle.chanv_c.proofs.verify.verdict_on.Goals as goal

pub returns-clause-answer : goal.returns-clause-answer
returns-clause-answer c = record { job = c.job.result; asked = c.job.ensures; answer = c.in_ok-verify.ensures.answer }
