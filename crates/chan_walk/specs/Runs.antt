-- Runs of a program, of any length, alone and among others that change storage too, and the bytes
-- of storage that they use.
use Rattle.std.specs.Prelude.{◌≡◌, ℕ, ◌+◌, ◌<◌, ◌≤◌, true, List, [], ◌∷◌, length, None, ◌⊎◌}
use Rattle.ccw_core.specs.Ccw.{byte}
use Rattle.ccw_core.specs.Storage.{Stands}
use Rattle.ckd_core.specs.Extents.{has_cylinder}
use Rattle.chan_walk.specs.declared.job.Job.{Job}
use Rattle.chan_walk.specs.Argument.{Has}
use Rattle.chan_walk.specs.Job.{storage_of, extents_of}
use Rattle.chan_walk.specs.Machine.{Stage, At, Ended, Checked, Event, Command, Store, Fetch, Gather}
use Rattle.chan_walk.specs.Machine.{Seek, SetMask, StepFrom}
use Rattle.chan_walk.specs.Place.{first_place}

-- a state of the machine, with the events of the step that led to it
pub record Moment : Type 0 where
  pub storage : List ℕ
  pub arm : ℕ
  pub mask : ℕ
  pub stage : Stage
  pub events : List Event

-- a run begins with the job's storage, the arm at any cylinder inside the extents, the job's mask
-- in force, and at the first place
pub record IsStart (j : Job) (m : Moment) : Type 0 where
  pub storage : m.storage ≡ storage_of j
  pub arm : has_cylinder (extents_of j) m.arm ≡ true
  pub mask : m.mask ≡ j.mask
  pub stage : m.stage ≡ At (first_place j) None
  pub events : m.events ≡ []

-- n comes after m by one step of the program
abbrev pub Steps : Moment → Moment → Type 0
Steps m n = StepFrom m.storage m.arm m.mask m.stage n.events n.storage n.arm n.mask n.stage

-- the moments of a run, the newest first
abbrev pub IsRun : Job → List Moment → Type 0
IsRun j [] = ⊥
IsRun j (m ∷ []) = IsStart j m
IsRun j (n ∷ m ∷ ms) = IsRun j (m ∷ ms) × Steps m n

-- the program makes no step from m to n; storage may be another
pub record Waits (m n : Moment) : Type 0 where
  pub arm : n.arm ≡ m.arm
  pub mask : n.mask ≡ m.mask
  pub stage : n.stage ≡ m.stage
  pub events : n.events ≡ []

-- storage t is as long as s, and the same in each byte for which P holds
pub record IsSameIn (P : ℕ → Type 0) (s t : List ℕ) : Type 0 where
  pub same_length : length t ≡ length s
  pub same : (b : ℕ) → P b → byte t b ≡ byte s b

-- the moments of a run among others, the newest first: between its steps others may change any
-- bytes of storage but those for which P holds
abbrev pub IsRunAmong : (ℕ → Type 0) → Job → List Moment → Type 0
IsRunAmong P j [] = ⊥
IsRunAmong P j (m ∷ []) = IsStart j m
IsRunAmong P j (n ∷ m ∷ ms) =
    IsRunAmong P j (m ∷ ms) × (Steps m n ⊎ (Waits m n × IsSameIn P m.storage n.storage))

-- the byte at b belongs to the CCW of this stage's place, where one stands there
abbrev pub UsesAt : List ℕ → Stage → ℕ → Type 0
UsesAt s (At p g) b = Stands s p.address × (p.address ≤ b) × (b < p.address + 8)
UsesAt s Ended b = ⊥
UsesAt s (Checked r) b = ⊥

-- the byte at b is added to an argument, or taken by Set File Mask
abbrev pub UsesIn : List Event → ℕ → Type 0
UsesIn [] b = ⊥
UsesIn (Gather addresses ∷ es) b = Has addresses b ⊎ UsesIn es b
UsesIn (Command code ∷ es) b = UsesIn es b
UsesIn (Store a bytes ∷ es) b = UsesIn es b
UsesIn (Fetch a n ∷ es) b = UsesIn es b
UsesIn (Seek x ∷ es) b = UsesIn es b
UsesIn (SetMask a x ∷ es) b = (a ≡ b) ⊎ UsesIn es b

-- a run uses the byte at b as a byte of a CCW, that of its last place among them
abbrev pub UsesInCcw : List Moment → ℕ → Type 0
UsesInCcw [] b = ⊥
UsesInCcw (m ∷ ms) b = UsesAt m.storage m.stage b ⊎ UsesInCcw ms b

-- a run uses the byte at b as a byte of an argument
abbrev pub UsesInArgument : List Moment → ℕ → Type 0
UsesInArgument [] b = ⊥
UsesInArgument (m ∷ ms) b = UsesIn m.events b ⊎ UsesInArgument ms b

-- a run uses the byte at b
abbrev pub Uses : List Moment → ℕ → Type 0
Uses ms b = UsesInCcw ms b ⊎ UsesInArgument ms b
