-- A program that was asked about may start later, and how a history goes on.
use Rattle.std.specs.Prelude.{◌≡◌, ℕ, true, List, [], ◌∷◌, Some, None, IsSome}
use Rattle.ckd_core.specs.Extents.{has_cylinder}
use Rattle.chan_walk.specs.declared.job.Job.{Job}
use Rattle.chan_walk.specs.declared.verdict.Verdict.TheVariants.{Yes}
use Rattle.chan_walk.specs.Alarm.{IsProper}
use Rattle.chan_walk.specs.Guarded.{IsGuarded}
use Rattle.chan_needs.specs.History.{Flight, GoesOnTo, IsHistory, MayStart, Situation}
use Rattle.chan_walk.specs.Job.{storage_of, extents_of}
use Rattle.chan_walk.specs.Machine.{At}
use Rattle.chan_walk.specs.OpenJob.{AreOfOneProgram, open_job}
use Rattle.chan_needs.specs.Needs.{Grants, IsKept}
use Rattle.chan_walk.specs.Place.{first_place}
use Rattle.chan_needs.specs.declared.layout.Remembered.{Remembered}
use Rattle.chan_needs.specs.Remembered.{AreInFlight, IsRemembered}
use Rattle.chan_needs.specs.Listed.{AreProgramsCompatible}
use Rattle.chan_needs.specs.Start.{IsFit}
use Rattle.chan_walk.specs.Runs.{IsSameIn, IsStart, Moment, Steps}
use Rattle.chan_walk.specs.Verdict.{IsVerdict}

-- f runs the program of j, with a yes
pub record IsFlightOf (j : Job) (f : Flight) : Type 0 where
  pub program : AreOfOneProgram j f.job
  pub proper : IsProper f.job
  pub verdict : IsVerdict f.job Yes

-- what a supervisor knows before a start: some job will do for the program of j, that of f grants
-- what is needed, the kept bytes are as they were, arm, mask and stage are those of a start, and
-- the program is compatible with each in flight
pub record IsAsked (a : Situation) (j : Job) (f : Flight) : Type 0 where
  pub opened : IsVerdict (open_job j) Yes
  pub program : AreOfOneProgram j f.job
  pub proper : IsProper f.job
  pub grants : Grants j f.job
  pub kept : IsSameIn (IsKept j) (storage_of j) f.moment.storage
  pub arm : has_cylinder (extents_of f.job) f.moment.arm ≡ true
  pub mask : f.moment.mask ≡ f.job.mask
  pub stage : f.moment.stage ≡ At (first_place f.job) None
  pub events : f.moment.events ≡ []
  pub compatible :
      (i : ℕ) (g : Flight) → a.at i ≡ Some g → (k : Job) × IsFlightOf k g
      × AreProgramsCompatible j k

-- the program may start
abbrev pub AskedMayStart : Type 0
AskedMayStart = (a : Situation) (j : Job) (f : Flight) → IsAsked a j f → MayStart a f

-- others may change any bytes that no program in flight guards, to anything
abbrev pub OthersMayChange : Type 0
OthersMayChange =
    (a : Situation) (before : List Situation) (t : List ℕ) → IsHistory (a ∷ before)
    → ((i : ℕ) (f : Flight) → a.at i ≡ Some f → IsSameIn (IsGuarded f.job) a.storage t)
    → GoesOnTo (a ∷ before) t

-- a program that may start does, under a number that is free
abbrev pub EachMayStart : Type 0
EachMayStart =
    (a : Situation) (before : List Situation) (i : ℕ) (f : Flight) → IsHistory (a ∷ before)
    → a.at i ≡ None → f.moment.storage ≡ a.storage → MayStart a f
    → (b : Situation) × (b.storage ≡ a.storage) × (b.at i ≡ Some f) × IsHistory (b ∷ a ∷ before)

-- a program in flight may make each step of the machine
abbrev pub EachMayStep : Type 0
EachMayStep =
    (a : Situation) (before : List Situation) (i : ℕ) (f : Flight) (n : Moment)
    → IsHistory (a ∷ before) → a.at i ≡ Some f → Steps f.moment n
    → (b : Situation) × (b.storage ≡ n.storage) × (b.at i ≡ Some (record f { moment = n }))
    × IsHistory (b ∷ a ∷ before)

-- a program in flight may leave at any time
abbrev pub EachMayLeave : Type 0
EachMayLeave =
    (a : Situation) (before : List Situation) (i : ℕ) → IsHistory (a ∷ before)
    → IsSome (a.at i)
    → (b : Situation) × (b.storage ≡ a.storage) × (b.at i ≡ None) × IsHistory (b ∷ a ∷ before)

-- a history begins over any storage
abbrev pub HistoryBegins : Type 0
HistoryBegins = (s : List ℕ) → (a : Situation) × (a.storage ≡ s) × IsHistory (a ∷ [])

-- a program was asked about in this sense if a job that fits what is remembered of it begins
abbrev pub FitIsAsked : Type 0
FitIsAsked =
    (j : Job) (a : Situation) (f : Flight) (p : Remembered) (fs : List Remembered)
    → IsRemembered j p → AreInFlight a fs → IsProper f.job → IsFit f.job p fs
    → IsStart f.job f.moment → IsAsked a f.job f
