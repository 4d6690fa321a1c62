-- What a survey of a job shows: what its one walk has found, and what follows from it.
use Rattle.std.specs.Prelude.{ℕ, List}
use Rattle.chan_walk.specs.declared.job.Job.{Job}
use Rattle.chan_walk.specs.declared.offence.Offence.{Offence}
use Rattle.chan_walk.specs.Alarm.{IsProper}
use Rattle.chan_walk.specs.Guard.{GuardAreas, Guards}
use Rattle.chan_walk.specs.Look.{Seen}
use Rattle.chan_walk.specs.Offence.{AreOffences}
use Rattle.chan_walk.specs.Walk.{HasFound}

-- a look at each place, for each the index of the one that it was found from, the guard, and all
-- offences
pub record Surveyed : Type 0 where
  pub looks : List Seen
  pub found_from : List ℕ
  pub guard : GuardAreas
  pub offences : List Offence

-- the looks are at all reachable places, the guard is the job's, and so are the offences, in order
pub record IsSurvey (j : Job) (s : Surveyed) : Type 0 where
  pub proper : IsProper j
  pub found : HasFound j s.looks s.found_from
  pub guard : Guards j s.guard
  pub offences : AreOffences j s.offences
