-- Runs on a real channel with a real disk. The channel may fetch early, and store late and in
-- pieces; a seek that fails may leave the arm anywhere. And runs on a channel that fetches its CCWs
-- early, and is the machine in all else.
use Rattle.std.specs.Prelude.{◌≡◌, ℕ, ◌+◌, ◌<◌, ◌≤◌, true, List, [], ◌∷◌, length, Some, ◌⊎◌, ◌↔◌}
use Rattle.std.specs.List.{AllByRecursion}
use Rattle.ccw_core.specs.Ccw.{byte}
use Rattle.ckd_core.specs.Extents.{has_cylinder}
use Rattle.ckd_core.specs.Mask.{is_at_least}
use Rattle.chan_walk.specs.declared.job.Job.{Job}
use Rattle.chan_walk.specs.declared.place.Place.{Place}
use Rattle.chan_walk.specs.declared.verdict.Verdict.TheVariants.{Yes}
use Rattle.chan_walk.specs.Alarm.{StoresOn}
use Rattle.chan_walk.specs.Argument.{Has}
use Rattle.chan_walk.specs.Guarded.{IsGuarded}
use Rattle.chan_walk.specs.Headline.{AreSteady, IsSafeEvent, MeetsNoProgramCheck}
use Rattle.chan_walk.specs.Job.{extents_of, HasMask}
use Rattle.chan_walk.specs.Machine.{Stage, At, Ended, Seek, Gathered, Step, StepFrom}
use Rattle.chan_walk.specs.Runs.{Moment, IsStart, Waits, IsSameIn, IsRunAmong}
use Rattle.chan_walk.specs.Verdict.{IsVerdict}

-- a step of the run has stored over the byte at b
abbrev pub HasStored : List Moment → ℕ → Type 0
HasStored run b = (m : Moment) × Has run m × StoresOn (λ a. a ≡ b) m.events

-- storage as the channel has fetched it by moment m: each byte as it was then, or at some moment
-- before
pub record IsFetched (ms : List Moment) (m : Moment) (s : List ℕ) : Type 0 where
  pub same_length : length s ≡ length m.storage
  pub bytes : (b : ℕ) → (l : Moment) × Has (m ∷ ms) l × (byte s b ≡ byte l.storage b)

-- where a step that leads to cylinder y and to a stage leaves arm and program: there; or a seek has
-- failed, and then the program has ended, and the arm may be anywhere
abbrev pub Lands : ℕ → Stage → Moment → Type 0
Lands y stage n =
    ((n.arm ≡ y) × (n.stage ≡ stage))
    ⊎ ((n.stage ≡ Ended) × (x : List ℕ) × Has n.events (Seek (Some x)))

-- n comes after m, the last moment of a run, by one step of the program over what the channel has
-- fetched; a byte over which the run has stored by now may hold anything, and no other has changed
pub record StepsForReal (ms : List Moment) (m n : Moment) : Type 0 where
  pub fetched : List ℕ
  pub stored : List ℕ
  pub arm : ℕ
  pub stage : Stage
  pub is_fetched : IsFetched ms m fetched
  pub step : StepFrom fetched m.arm m.mask m.stage n.events stored arm n.mask stage
  pub lands : Lands arm stage n
  pub same_length : length n.storage ≡ length m.storage
  pub others :
      (b : ℕ) → (HasStored (n ∷ m ∷ ms) b → ⊥) → byte n.storage b ≡ byte m.storage b

-- storage s as a channel finds it that fetched the CCW at address a at moment early: its eight
-- bytes as they were then, and all others as they are at m
pub record IsWithEarlyCcw (a : ℕ) (early m : Moment) (s : List ℕ) : Type 0 where
  pub same_length : length s ≡ length m.storage
  pub ccw : (b : ℕ) → a ≤ b → b < a + 8 → byte s b ≡ byte early.storage b
  pub others : (b : ℕ) → (b < a) ⊎ (a + 8 ≤ b) → byte s b ≡ byte m.storage b

-- n comes after m, the last moment of a run, by one step of the program whose CCW the channel
-- fetched at some moment of the run so far; what the step stores is there at once
pub record StepsEarly (ms : List Moment) (m n : Moment) : Type 0 where
  pub place : Place
  pub gathered : Gathered
  pub early : Moment
  pub fetched : List ℕ
  pub stored : List ℕ
  pub stage : m.stage ≡ At place gathered
  pub is_before : Has (m ∷ ms) early
  pub is_fetched : IsWithEarlyCcw place.address early m fetched
  pub step :
      Step fetched m.arm m.mask place gathered n.events stored n.arm n.mask n.stage
  pub same_length : length n.storage ≡ length m.storage
  pub at_once :
      (b : ℕ) → StoresOn (λ a. a ≡ b) n.events → byte n.storage b ≡ byte stored b
  pub others :
      (b : ℕ) → (StoresOn (λ a. a ≡ b) n.events → ⊥) → byte n.storage b ≡ byte m.storage b

-- the moments of a run with these steps, the newest first: between them others may change any bytes
-- of storage but those for which P holds
abbrev pub IsRunBy :
    (List Moment → Moment → Moment → Type 0) → (ℕ → Type 0) → Job → List Moment → Type 0
IsRunBy S P j [] = ⊥
IsRunBy S P j (m ∷ []) = IsStart j m
IsRunBy S P j (n ∷ m ∷ ms) =
    IsRunBy S P j (m ∷ ms) × (S ms m n ⊎ (Waits m n × IsSameIn P m.storage n.storage))

-- the moments of a run for real
abbrev pub IsRealRun : (ℕ → Type 0) → Job → List Moment → Type 0
IsRealRun P j run = IsRunBy StepsForReal P j run

-- a moment of a safe run for real: the arm is inside the extents as long as the program is at a
-- place
pub record IsSafeForReal (j : Job) (m : Moment) : Type 0 where
  pub unchecked : MeetsNoProgramCheck m.stage
  pub inside : (p : Place) (g : Gathered) → m.stage ≡ At p g
      → has_cylinder (extents_of j) m.arm ≡ true
  pub strict : is_at_least m.mask j.mask ≡ true
  pub events : AllByRecursion (IsSafeEvent j) m.events

-- where the verdict is yes and the mask is valid, every run for real is safe, and the job is steady
-- in these runs
abbrev pub YesIsSafeForReal : Type 0
YesIsSafeForReal =
    (j : Job) → HasMask j → IsVerdict j Yes
    → ((run : List Moment) → IsRealRun (IsGuarded j) j run → AllByRecursion (IsSafeForReal j) run)
    × AreSteady j (IsRealRun (IsGuarded j) j)

-- a real channel with a real disk can do all that the machine does
abbrev pub EachRunIsReal : Type 0
EachRunIsReal =
    (j : Job) (run : List Moment) → IsRunAmong (IsGuarded j) j run → IsRealRun (IsGuarded j) j run

-- where the verdict is yes, the runs whose CCWs are fetched early are the runs among others
abbrev pub EarlyRunIsRun : Type 0
EarlyRunIsRun =
    (j : Job) → IsVerdict j Yes → (run : List Moment)
    → IsRunBy StepsEarly (IsGuarded j) j run ↔ IsRunAmong (IsGuarded j) j run
