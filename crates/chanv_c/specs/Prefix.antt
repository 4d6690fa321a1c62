-- The prefix through which the program that C asks about is started.
use Rattle.std.specs.Prelude.{◌≡◌, ℕ, List}
use Rattle.chan_walk.specs.declared.job.Job.{Job}
use Rattle.chan_needs.specs.Prefix.{CanStandAt, prefix_at}
use Rattle.chanv_c.specs.declared.c_job.CJob.{CJob}
use Rattle.chanv_c.specs.Job.{IsAskedJob}

-- these bytes are the job's prefix, and it can stand at this address
pub record IsPrefixFor (c : CJob) (address : ℕ) (bytes : List ℕ) : Type 0 where
  pub job : Job
  pub asked : IsAskedJob c job
  pub can_stand : CanStandAt address job
  pub bytes_are : bytes ≡ prefix_at address job

-- the job's prefix can't stand at this address
pub record HasNoPrefixAt (c : CJob) (address : ℕ) : Type 0 where
  pub job : Job
  pub asked : IsAskedJob c job
  pub cannot : CanStandAt address job → ⊥
