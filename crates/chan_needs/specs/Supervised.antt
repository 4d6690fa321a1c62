-- The supervisor's law: if programs start only after a yes of `check_start`, and others write only
-- if `check_write` names no program, then all programs in flight are well.
use Rattle.std.specs.Prelude.{◌≡◌, ℕ, List, [], ◌∷◌, length, map, Option, Some, None, IsSome}
use Rattle.std.specs.Prelude.{◌⊎◌, false, true}
use Rattle.std.specs.List.{All, AllByRecursion}
use Rattle.ccw_core.specs.declared.areas.Area.{Area}
use Rattle.chan_walk.specs.declared.job.Job.{Job}
use Rattle.chan_needs.specs.declared.layout.Remembered.{Remembered}
use Rattle.chan_needs.specs.declared.layout.Row.{Row}
use Rattle.chan_needs.specs.Row.{in_row}
use Rattle.chan_needs.specs.declared.start.Start.TheVariants.{Yes}
use Rattle.ccw_core.specs.Areas.{lies_in}
use Rattle.ccw_core.specs.Ccw.{byte}
use Rattle.chan_areas.specs.Merged.{IsByteOf}
use Rattle.chan_walk.specs.Alarm.{IsProper}
use Rattle.chan_walk.specs.Argument.{Has}
use Rattle.chan_needs.specs.History.{ProgramActs, AreFlightsWell, Flight, ProgramWaits, Situation}
use Rattle.chan_needs.specs.Remembered.{AreInFlight, HoldsKept, IsKeeperOf, IsInFlightAt}
use Rattle.chan_needs.specs.Remembered.{KeepsNone}
use Rattle.chan_needs.specs.Remembered.{IsRemembered, IsWritten, device_number}
use Rattle.chan_needs.specs.Listed.{AreNeeds, listed_in}
use Rattle.chan_needs.specs.Start.{IsAnswerOf, IsCompatibleWith}
use Rattle.chan_walk.specs.Runs.{IsSameIn, IsStart, Moment, Steps}

-- a situation, and what the supervisor remembers under each number
pub record Supervision : Type 0 where
  pub situation : Situation
  pub programs : ℕ → Option Remembered

-- the list has all that is remembered
abbrev pub ListsRemembered : (ℕ → Option Remembered) → List Remembered → Type 0
ListsRemembered ps fs = (i : ℕ) (p : Remembered) → ps i ≡ Some p → (n : ℕ) × IsInFlightAt fs n p

-- a program that was asked about is about to start under number i, where nothing is in flight, and
-- `check_start` answers yes
pub record IsAllowed (v : Supervision) (i : ℕ) : Type 0 where
  pub asked : Job
  pub program : Remembered
  pub remembered : IsRemembered asked program
  pub flight : Flight
  pub proper : IsProper flight.job
  pub start : IsStart flight.job flight.moment
  pub storage : flight.moment.storage ≡ v.situation.storage
  pub in_flight : List Remembered
  pub lists : ListsRemembered v.programs in_flight
  pub answer : IsAnswerOf flight.job program in_flight Yes
  pub free : v.situation.at i ≡ None

-- the program starts, and is remembered
pub record ProgramStartsAt (v w : Supervision) (i : ℕ) : Type 0 where
  pub allowed : IsAllowed v i
  pub there : w.situation.at i ≡ Some allowed.flight
  pub noted : w.programs i ≡ Some allowed.program
  pub storage : w.situation.storage ≡ v.situation.storage

-- the program under number i makes a step, or it leaves; only then it may be forgotten
pub record ProgramGoesOnAt (v w : Supervision) (i : ℕ) : Type 0 where
  pub there : IsSome (v.situation.at i)
  pub acts : ProgramActs v.situation w.situation (v.situation.at i) (w.situation.at i)
  pub noted : IsSome (w.situation.at i) → w.programs i ≡ v.programs i

-- the program under number k waits, if there is one
abbrev pub ProgramWaitsAt : Supervision → Supervision → ℕ → Type 0
ProgramWaitsAt v w k = ProgramWaits (v.situation.at k) (w.situation.at k)
    × (w.programs k ≡ v.programs k)

-- others are about to write, so that storage becomes t: only into an area of which, as
-- `check_write` says, no program keeps a byte
pub record MayWrite (v : Supervision) (t : List ℕ) : Type 0 where
  pub area : Area
  pub in_flight : List Remembered
  pub lists : ListsRemembered v.programs in_flight
  pub answer : IsKeeperOf in_flight area None
  pub written : IsWritten area v.situation.storage t

-- others write, and all programs wait
abbrev pub IsWriting : Supervision → Supervision → Type 0
IsWriting v w = MayWrite v w.situation.storage × ((k : ℕ) → ProgramWaitsAt v w k)

-- one program starts, makes a step or leaves, and each other waits; or others write
abbrev pub SupervisionGoesOn : Supervision → Supervision → Type 0
SupervisionGoesOn v w =
    ((i : ℕ) × (ProgramStartsAt v w i ⊎ ProgramGoesOnAt v w i)
    × ((k : ℕ) → (k ≡ i) ⊎ ProgramWaitsAt v w k))
    ⊎ IsWriting v w

-- the newest first; at first no program is in flight
abbrev pub IsSupervised : List Supervision → Type 0
IsSupervised [] = ⊥
IsSupervised (v ∷ []) = (i : ℕ) → v.situation.at i ≡ None
IsSupervised (w ∷ v ∷ before) = IsSupervised (v ∷ before) × SupervisionGoesOn v w

-- in each situation all programs in flight are well
abbrev pub SupervisedStaysWell : Type 0
SupervisedStaysWell =
    (run : List Supervision) → IsSupervised run
    → AllByRecursion AreFlightsWell (map (λ (v : Supervision). v.situation) run)

-- what the calls allow may happen, and so may each step and each end
pub record SupervisedGoesOn : Type 0 where
  pub starts :
      (v : Supervision) (before : List Supervision) (i : ℕ) → IsSupervised (v ∷ before)
      → (s : IsAllowed v i)
      → (w : Supervision) × (w.situation.at i ≡ Some s.flight) × IsSupervised (w ∷ v ∷ before)
  pub steps :
      (v : Supervision) (before : List Supervision) (i : ℕ) (f : Flight) (n : Moment)
      → IsSupervised (v ∷ before) → v.situation.at i ≡ Some f → Steps f.moment n
      → (w : Supervision) × (w.situation.at i ≡ Some (record f { moment = n }))
      × IsSupervised (w ∷ v ∷ before)
  pub leaves :
      (v : Supervision) (before : List Supervision) (i : ℕ) → IsSupervised (v ∷ before)
      → IsSome (v.situation.at i)
      → (w : Supervision) × (w.situation.at i ≡ None) × (w.programs i ≡ None)
      × IsSupervised (w ∷ v ∷ before)
  pub writes :
      (v : Supervision) (before : List Supervision) (t : List ℕ) → IsSupervised (v ∷ before)
      → MayWrite v t
      → (w : Supervision) × (w.situation.storage ≡ t) × IsSupervised (w ∷ v ∷ before)

-- a program starts, and the question whether it may was about a list with f
abbrev pub StartsBeside : Remembered → Supervision → Supervision → ℕ → Type 0
StartsBeside f v w i = (s : ProgramStartsAt v w i) × Has s.allowed.in_flight f

-- others write, and the question whether they may was about a list with f
abbrev pub WritesBeside : Remembered → Supervision → Supervision → Type 0
WritesBeside f v w =
    (m : MayWrite v w.situation.storage) × Has m.in_flight f × ((k : ℕ) → ProgramWaitsAt v w k)

-- supervision goes on, and each question is about a list with f
abbrev pub GoesOnBeside : Remembered → Supervision → Supervision → Type 0
GoesOnBeside f v w =
    ((i : ℕ) × (StartsBeside f v w i ⊎ ProgramGoesOnAt v w i)
    × ((k : ℕ) → (k ≡ i) ⊎ ProgramWaitsAt v w k))
    ⊎ WritesBeside f v w

-- none of these laws is about nothing: supervision begins over any storage; a row without areas of
-- its own stands for its program; what is remembered, listed, allowed and written follows from its
-- parts; who lists all that is remembered lists each program in flight; and supervision goes on
-- beside each program that the questions are about
pub record CanBeSupervised : Type 0 where
  pub row : (r : Row) → r.stores.len ≡ 0 → r.keeps.len ≡ 0 → in_row r ≡ r.program
  pub begins :
      (s : List ℕ) → (v : Supervision) × (v.situation.storage ≡ s) × IsSupervised (v ∷ [])
  pub remembered :
      (j : Job) (p : Remembered) → AreNeeds j (listed_in p.needs) → j.start ≡ p.start
      → device_number j.device ≡ p.device → HoldsKept j p → IsRemembered j p
  pub lists :
      (programs : ℕ → Option Remembered) (fs : List Remembered)
      → ((i : ℕ) (p : Remembered) → programs i ≡ Some p → Has fs p) → ListsRemembered programs fs
  pub flying :
      (v : Supervision) (before : List Supervision) (fs : List Remembered)
      → IsSupervised (v ∷ before) → ListsRemembered v.programs fs → AreInFlight v.situation fs
  pub allowed :
      (v : Supervision) (i : ℕ) (j : Job) (p : Remembered) (f : Flight) (fs : List Remembered)
      → IsRemembered j p → IsProper f.job → IsStart f.job f.moment
      → f.moment.storage ≡ v.situation.storage → ListsRemembered v.programs fs
      → IsAnswerOf f.job p fs Yes → v.situation.at i ≡ None
      → (s : IsAllowed v i) × (s.flight ≡ f) × (s.program ≡ p)
  pub written :
      (area : Area) (s t : List ℕ) → length t ≡ length s
      → ((b : ℕ) → (IsByteOf area b → ⊥) → byte t b ≡ byte s b) → IsWritten area s t
  pub check_write :
      (v : Supervision) (t : List ℕ) (area : Area) (fs : List Remembered)
      → ListsRemembered v.programs fs → IsKeeperOf fs area None
      → IsWritten area v.situation.storage t → MayWrite v t
  pub starts_beside :
      (f : Remembered) (v w : Supervision) (i : ℕ) (s : ProgramStartsAt v w i)
      → Has s.allowed.in_flight f → ((k : ℕ) → (k ≡ i) ⊎ ProgramWaitsAt v w k)
      → GoesOnBeside f v w
  pub goes_on_beside :
      (f : Remembered) (v w : Supervision) (i : ℕ) → ProgramGoesOnAt v w i
      → ((k : ℕ) → (k ≡ i) ⊎ ProgramWaitsAt v w k) → GoesOnBeside f v w
  pub writes_beside :
      (f : Remembered) (v w : Supervision) (m : MayWrite v w.situation.storage)
      → Has m.in_flight f → ((k : ℕ) → ProgramWaitsAt v w k) → GoesOnBeside f v w

-- ---- a write that lasts, such as a tape's input into a buffer

-- what stands for the write in the table: it stores over the area, and keeps nothing
pub record IsLastingWrite (area : Area) (f : Remembered) : Type 0 where
  pub stores : (b : ℕ) → IsByteOf area b → lies_in f.needs.store.now b ≡ true
  pub keeps : (b : ℕ) → lies_in f.needs.keep.now b ≡ false

-- no program in flight keeps a byte of the area
abbrev pub IsSparedBy : Area → Supervision → Type 0
IsSparedBy area v =
    (i : ℕ) (p : Remembered) → IsSome (v.situation.at i) → v.programs i ≡ Some p
    → KeepsNone area p

-- a row that keeps nothing stands for a write into the area that it stores over, and such a write
-- may begin when `check_write` names no program; while each question is about a list with the row,
-- no program that keeps a byte of the area starts; so at each moment others may write into the
-- area, by a table of the programs in flight and the write
pub record LastingWrites : Type 0 where
  pub stands :
      (r : Row) → r.program.needs.keep.now ≡ [] → r.keeps.len ≡ 0
      → IsLastingWrite r.stores (in_row r)
  pub begins :
      (area : Area) (v : Supervision) (fs : List Remembered) → ListsRemembered v.programs fs
      → IsKeeperOf fs area None → IsSparedBy area v
  pub stays :
      (f : Remembered) (area : Area) (v w : Supervision) → IsLastingWrite area f
      → IsSparedBy area v → GoesOnBeside f v w → IsSparedBy area w
  pub check_write :
      (f : Remembered) (area : Area) (v : Supervision) (fs : List Remembered) (t : List ℕ)
      → IsLastingWrite area f → IsSparedBy area v → ListsRemembered v.programs fs
      → ((g : Remembered) → Has fs g
      → (g ≡ f) ⊎ ((i : ℕ) × IsSome (v.situation.at i) × (v.programs i ≡ Some g)))
      → IsWritten area v.situation.storage t → MayWrite v t

-- ---- bytes that last, such as the CCWs of a tape, or a prefix of the supervisor's own

-- what stands for the bytes in the table: it keeps the area, and stores over nothing
pub record IsLastingKeep (area : Area) (f : Remembered) : Type 0 where
  pub keeps : (b : ℕ) → IsByteOf area b → lies_in f.needs.keep.now b ≡ true
  pub stores : (b : ℕ) → lies_in f.needs.store.now b ≡ false

-- no program in flight stores over a byte of the area
abbrev pub IsUntouchedBy : Area → Supervision → Type 0
IsUntouchedBy area v =
    (i : ℕ) (p : Remembered) → IsSome (v.situation.at i) → v.programs i ≡ Some p
    → (b : ℕ) → lies_in p.needs.store.now b ≡ true → IsByteOf area b → ⊥

-- a row that stores over nothing stands for the bytes of the area that it keeps, and it may join
-- the table when it is compatible with all that is remembered; while each question is about a list
-- with the row, no program that stores over the area starts, and each start, step, end and write
-- leaves the bytes of the area as they were
pub record LastingKeeps : Type 0 where
  pub stands :
      (r : Row) → r.program.needs.store.now ≡ [] → r.stores.len ≡ 0
      → IsLastingKeep r.keeps (in_row r)
  pub begins :
      (f : Remembered) (area : Area) (v : Supervision) (fs : List Remembered)
      → IsLastingKeep area f → ListsRemembered v.programs fs → All (IsCompatibleWith f) fs
      → IsUntouchedBy area v
  pub goes_on : (f : Remembered) (v w : Supervision) → GoesOnBeside f v w → SupervisionGoesOn v w
  pub stays :
      (f : Remembered) (area : Area) (v w : Supervision) → IsLastingKeep area f
      → IsUntouchedBy area v → GoesOnBeside f v w → IsUntouchedBy area w
  pub same :
      (f : Remembered) (area : Area) (v w : Supervision) (before : List Supervision)
      → IsLastingKeep area f → IsSupervised (v ∷ before) → IsUntouchedBy area v
      → GoesOnBeside f v w → IsSameIn (IsByteOf area) v.situation.storage w.situation.storage
