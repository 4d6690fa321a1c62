-- No false alarm: where the verdict is no, a run shows why; and yes is said of every job that is
-- safe and steady.
use Rattle.std.specs.Prelude.{◌≡◌, ℕ, ◌+◌, ◌<◌, ◌≤◌, true, false, List, [], ◌∷◌, ◌++◌, map, length}
use Rattle.std.specs.Prelude.{Some, None, ◌⊎◌, ◌↔◌}
use Rattle.std.specs.List.{AllByRecursion, range_with_len}
use Rattle.ccw_core.specs.Areas.{lies_in}
use Rattle.ccw_core.specs.Ccw.{byte, ccw}
use Rattle.ckd_core.specs.Extents.{AreExtents}
use Rattle.ckd_core.specs.Mask.{inhibits, is_at_least}
use Rattle.chan_walk.specs.declared.job.Job.{Job}
use Rattle.chan_walk.specs.declared.place.Place.{Place}
use Rattle.chan_walk.specs.declared.reason.Reason.{Reason}
use Rattle.chan_walk.specs.declared.reason.Reason.TheVariants.{Misaligned, OutsideStorage}
use Rattle.chan_walk.specs.declared.reason.Reason.TheVariants.{TransferNotAllowed, InvalidCode}
use Rattle.chan_walk.specs.declared.reason.Reason.TheVariants.{BadFormat, ZeroCount, DataOutside}
use Rattle.chan_walk.specs.declared.reason.Reason.TheVariants.{NotInTable, Inhibited, StoreNotLent}
use Rattle.chan_walk.specs.declared.reason.Reason.TheVariants.{FetchNotLent, ShortSeek, SeekOutside}
use Rattle.chan_walk.specs.declared.reason.Reason.TheVariants.{ChangesCcw, ChangesArgument}
use Rattle.chan_walk.specs.declared.reason.Reason.TheVariants.{WeakensMask}
use Rattle.chan_walk.specs.declared.verdict.Verdict.{Verdict}
use Rattle.chan_walk.specs.declared.verdict.Verdict.TheVariants.{Yes, No}
use Rattle.chan_walk.specs.Argument.{Has}
use Rattle.chan_walk.specs.ProgramCheck.{program_check}
use Rattle.chan_walk.specs.Fault.{is_known, begins_seek, allows}
use Rattle.chan_walk.specs.Guarded.{IsGuarded}
use Rattle.chan_walk.specs.Headline.{AreSafe, AreSteady, HoldsInitialByte, IsSafe, IsSpared}
use Rattle.chan_walk.specs.Headline.{IsSteady}
use Rattle.chan_walk.specs.Job.{storage_of, extents_of, fetch_of, store_of, HasMask}
use Rattle.chan_walk.specs.Machine.{Gathered, At, Checked, Event, Command, Store, Fetch}
use Rattle.chan_walk.specs.Machine.{Gather, Seek, SetMask}
use Rattle.chan_walk.specs.Place.{is_fresh}
use Rattle.chan_walk.specs.Reachable.{IsPath}
use Rattle.chan_walk.specs.Runs.{Moment, IsRun, IsRunAmong, UsesInCcw, UsesInArgument, Uses}
use Rattle.chan_walk.specs.Verdict.{Offends, IsVerdict}

-- storage holds bytes
abbrev pub AreBytes : List ℕ → Type 0
AreBytes s = (b : ℕ) → byte s b < 256

-- what the types of the code keep of every job: one extent or more, each of them in order and on
-- the device, bytes in storage, and a mask
abbrev pub IsProper : Job → Type 0
IsProper j = AreExtents (extents_of j) × AreBytes (storage_of j) × HasMask j

-- ---- each path is a run

-- the first cylinder of the first extent
abbrev pub first_cylinder : List (ℕ × ℕ) → ℕ
first_cylinder [] = 0
first_cylinder (e ∷ es) = e.0

-- what an event stores was there before
abbrev pub IsQuietEvent : Job → Event → Type 0
IsQuietEvent j (Store a bytes) = bytes ≡ map (byte (storage_of j)) (range_with_len a (length bytes))
IsQuietEvent j (Command code) = Unit {0}
IsQuietEvent j (Fetch a n) = Unit {0}
IsQuietEvent j (Gather addresses) = Unit {0}
IsQuietEvent j (Seek x) = Unit {0}
IsQuietEvent j (SetMask a x) = Unit {0}

-- nothing has changed, the arm stands where it stood, and the job's mask is in force
pub record IsQuietMoment (j : Job) (m : Moment) : Type 0 where
  pub storage : m.storage ≡ storage_of j
  pub arm : m.arm ≡ first_cylinder (extents_of j)
  pub mask : m.mask ≡ j.mask
  pub events : AllByRecursion (IsQuietEvent j) m.events

-- the moments are at these places, in order
abbrev pub ArePlaces : List Moment → List Place → Type 0
ArePlaces [] [] = Unit {0}
ArePlaces [] (p ∷ ps) = ⊥
ArePlaces (m ∷ ms) [] = ⊥
ArePlaces (m ∷ ms) (p ∷ ps) = ((g : Gathered) × (m.stage ≡ At p g)) × ArePlaces ms ps

-- each path is the places of a run that begins at the first cylinder of the first extent and stores
-- only what was there
abbrev pub EachPathIsRun : Type 0
EachPathIsRun =
    (j : Job) → IsProper j → (ps : List Place) → IsPath j ps → (run : List Moment) × IsRun j run
    × ArePlaces run ps × AllByRecursion (IsQuietMoment j) run

-- ---- what a run shows

-- a run comes over the places ps to p, with nothing changed so far, and P says what the moment
-- after its next step shows
pub record ShowsInStep (j : Job) (p : Place) (ps : List Place) (P : Moment → Type 0)
    : Type 0 where
  pub run : List Moment
  pub at : Moment
  pub next : Moment
  pub is_run : IsRun j (next ∷ at ∷ run)
  pub over : ArePlaces (at ∷ run) (p ∷ ps)
  pub quiet : AllByRecursion (IsQuietMoment j) (at ∷ run)
  pub shows : P next

-- no argument of a seek is complete
abbrev pub HasNoWholeArgument : List Event → Type 0
HasNoWholeArgument es = (x : List ℕ) → Has es (Seek (Some x)) → ⊥

-- moments at which the same operation goes on, by data chaining, and no argument is complete
abbrev pub StaysInOperation : List Moment → Type 0
StaysInOperation [] = Unit {0}
StaysInOperation (m ∷ ms) =
    ((q : Place) × (g : Gathered) × (m.stage ≡ At q g) × (is_fresh q.entered ≡ false))
    × HasNoWholeArgument m.events × StaysInOperation ms

-- a run comes over the places ps to p, with nothing changed so far, and P says what the moment at
-- p and the one after a step of the operation that begins there show
pub record ShowsInOperation (j : Job) (p : Place) (ps : List Place) (P : Moment → Moment → Type 0)
    : Type 0 where
  pub run : List Moment
  pub at : Moment
  pub more : List Moment
  pub next : Moment
  pub is_run : IsRun j (next ∷ (more ++ at ∷ run))
  pub over : ArePlaces (at ∷ run) (p ∷ ps)
  pub quiet : AllByRecursion (IsQuietMoment j) (at ∷ run)
  pub goes_on : StaysInOperation more
  pub shows : P at next

-- a byte is stored for whose address P holds
abbrev pub StoresOn : (ℕ → Type 0) → List Event → Type 0
StoresOn P es =
    (a : ℕ) × (bytes : List ℕ) × (b : ℕ) × Has es (Store a bytes) × (a ≤ b) × (b < a + length bytes)
    × P b

-- a byte is fetched for whose address P holds
abbrev pub FetchesFrom : (ℕ → Type 0) → List Event → Type 0
FetchesFrom P es = (a : ℕ) × (n : ℕ) × (b : ℕ) × Has es (Fetch a n) × (a ≤ b) × (b < a + n) × P b

-- a byte is stored that some run uses, as P says, and at m it doesn't have its first value
abbrev pub ChangesUsed : Job → (List Moment → ℕ → Type 0) → Moment → Type 0
ChangesUsed j P m =
    StoresOn (λ b. (HoldsInitialByte j b m → ⊥) × (used : List Moment) × IsRun j used
    × P used b) m.events

-- a run comes over the places ps to p, and there the channel stops it by this program check
abbrev pub ShowsProgramCheck : Job → Place → List Place → Reason → Type 0
ShowsProgramCheck j p ps r = ShowsInStep j p ps (λ m. m.stage ≡ Checked r)

-- what a run over the places ps shows for a reason at p: the program check itself; a command that
-- may not begin; a store or a fetch outside lent areas; a seek that begins at p, where the
-- channel's check passes, and ends or is checked before its sixth byte; an operation that begins at
-- p and seeks where it isn't allowed; a store that changes what some run uses; a Set File Mask that
-- begins at p and takes a byte that isn't at least as strict as the job's mask
abbrev pub ShowsReason : Job → Place → List Place → Reason → Type 0
ShowsReason j p ps Misaligned = ShowsProgramCheck j p ps Misaligned
ShowsReason j p ps OutsideStorage = ShowsProgramCheck j p ps OutsideStorage
ShowsReason j p ps TransferNotAllowed = ShowsProgramCheck j p ps TransferNotAllowed
ShowsReason j p ps InvalidCode = ShowsProgramCheck j p ps InvalidCode
ShowsReason j p ps BadFormat = ShowsProgramCheck j p ps BadFormat
ShowsReason j p ps ZeroCount = ShowsProgramCheck j p ps ZeroCount
ShowsReason j p ps DataOutside = ShowsProgramCheck j p ps DataOutside
ShowsReason j p ps NotInTable =
    ShowsInStep j p ps (λ m. (code : ℕ) × Has m.events (Command code) × (is_known code ≡ false))
ShowsReason j p ps Inhibited =
    ShowsInStep j p ps (λ m. (code : ℕ) × Has m.events (Command code)
    × (inhibits j.mask code ≡ true))
ShowsReason j p ps StoreNotLent =
    ShowsInStep j p ps (λ m. StoresOn (λ b. lies_in (store_of j) b ≡ false) m.events)
ShowsReason j p ps FetchNotLent =
    ShowsInStep j p ps (λ m. FetchesFrom (λ b. lies_in (fetch_of j) b ≡ false) m.events)
ShowsReason j p ps ShortSeek =
    ShowsInOperation j p ps (λ at m. (program_check at.storage p ≡ None)
    × (begins_seek p (ccw at.storage p.address) ≡ true)
    × HasNoWholeArgument m.events
    × (Has m.events (Seek None) ⊎ ((r : Reason) × (m.stage ≡ Checked r))))
ShowsReason j p ps SeekOutside =
    ShowsInOperation j p ps (λ at m. (is_fresh p.entered ≡ true) × (x : List ℕ)
    × Has m.events (Seek (Some x)) × (allows j x ≡ false))
ShowsReason j p ps ChangesCcw = ShowsInStep j p ps (ChangesUsed j UsesInCcw)
ShowsReason j p ps ChangesArgument = ShowsInStep j p ps (ChangesUsed j UsesInArgument)
ShowsReason j p ps WeakensMask =
    ShowsInStep j p ps (λ m. (is_fresh p.entered ≡ true)
    × (a : ℕ) × (x : ℕ) × Has m.events (SetMask a x)
    × (is_at_least x j.mask ≡ false))

-- each path to an offending place is a witness: a run over exactly this path shows the reason
abbrev pub EachPathShows : Type 0
EachPathShows =
    (j : Job) (p : Place) (ps : List Place) (r : Reason) → IsProper j → IsPath j (p ∷ ps)
    → Offends j p r → ShowsReason j p ps r

-- a run over some path to p shows the reason
abbrev pub IsShownAt : Job → Place → Reason → Type 0
IsShownAt j p r = (ps : List Place) × IsPath j (p ∷ ps) × ShowsReason j p ps r

-- no false alarm: where the verdict is no, a run comes to a place with its address and shows its
-- reason there
abbrev pub NoFalseAlarm : Type 0
NoFalseAlarm =
    (j : Job) (a : ℕ) (r : Reason) → IsProper j → IsVerdict j (No a r) → (p : Place)
    × (p.address ≡ a) × IsShownAt j p r

-- ---- exactness

-- a job that is safe in every run and steady has the verdict yes
abbrev pub SafeIsYes : Type 0
SafeIsYes = (j : Job) → IsProper j → IsSafe j → IsSteady j → IsVerdict j Yes

-- one of these runs uses the byte at b
abbrev pub IsUsedIn : (List Moment → Type 0) → ℕ → Type 0
IsUsedIn R b = (used : List Moment) × R used × Uses used b

-- some run uses the byte at b
abbrev pub IsUsed : Job → ℕ → Type 0
IsUsed j = IsUsedIn (IsRun j)

-- where the verdict is yes, the guarded bytes are those that some run uses, and among others no run
-- uses another
abbrev pub GuardedIsUsed : Type 0
GuardedIsUsed =
    (j : Job) → IsProper j → IsVerdict j Yes → (b : ℕ)
    → (IsGuarded j b ↔ IsUsed j b) × (IsUsedIn (IsSpared j) b → IsGuarded j b)

-- a job that is safe in every run and steady is so among others too, if they change no byte that
-- some run of it uses
abbrev pub StaysSafe : Type 0
StaysSafe =
    (j : Job) → IsProper j → IsSafe j → IsSteady j
    → AreSafe j (IsRunAmong (IsUsed j) j) × AreSteady j (IsRunAmong (IsUsed j) j)

-- whatever answers yes only for safe and steady jobs answers yes only where the verdict is yes
abbrev pub HeadlineAloneIsEnough : Type 0
HeadlineAloneIsEnough =
    (answer : Job → Verdict) → ((j : Job) → IsProper j → answer j ≡ Yes → IsSafe j × IsSteady j)
    → (j : Job) → IsProper j → answer j ≡ Yes → IsVerdict j Yes
