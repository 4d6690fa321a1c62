-- What is said of the job's prefix, said of the job that C asks about.
use Rattle.std.proofs.Common.{◌≡◌, ℕ, List, MatchOption, Option, None, Some}
use Rattle.chan_walk.specs.declared.job.Job.{Job}
use Rattle.chan_needs.specs.Prefix.{CanStandAt, prefix_at}
use Rattle.chanv_c.specs.declared.c_job.CJob.{CJob}
use Rattle.chanv_c.specs.Job.{IsAskedJob}
use Rattle.chanv_c.specs.Prefix.{HasNoPrefixAt, IsPrefixFor}
use Rattle.chanv_c.proofs.prefix.prefix_on.Goals as goal

told : {V : Type 0} (bytes_of : V → List ℕ) (c : CJob) (a : ℕ) (job : Job) (o : Option V) → IsAskedJob c job
    → MatchOption o (CanStandAt a job → ⊥) (λ v. CanStandAt a job × (bytes_of v ≡ prefix_at a job))
    → MatchOption o (HasNoPrefixAt c a) (λ v. IsPrefixFor c a (bytes_of v))
told bytes_of c a job None asked is = record { job = job; asked = asked; cannot = is }
told bytes_of c a job (Some v) asked is = record { job = job; asked = asked; can_stand = is.0; bytes_are = is.1 }

pub returns-clause-answer : goal.returns-clause-answer
returns-clause-answer c = told (λ v. v.items) c.args.asked.now c.args.address c.job.result _ c.job.ensures c.in_ok-prefix_at.ensures
