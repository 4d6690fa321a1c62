-- What a yes means: every run is safe and the job is steady, also among others that change storage
-- meanwhile; and the laws that carry it.
use Rattle.std.specs.Prelude.{◌≡◌, ℕ, ◌+◌, ◌-◌, ◌<◌, ◌≤◌, true, false, List, ◌++◌, map, length}
use Rattle.std.specs.Prelude.{Some, None, ◌⊎◌}
use Rattle.std.specs.List.{AllByRecursion}
use Rattle.ccw_core.specs.Areas.{lies_in}
use Rattle.ccw_core.specs.Ccw.{byte, ccw, is_transfer}
use Rattle.ccw_core.specs.Storage.{Stands}
use Rattle.ckd_core.specs.Extents.{has_cylinder}
use Rattle.ckd_core.specs.Mask.{inhibits, is_at_least}
use Rattle.chan_walk.specs.declared.job.Job.{Job}
use Rattle.chan_walk.specs.declared.place.Place.{Place}
use Rattle.chan_walk.specs.declared.verdict.Verdict.TheVariants.{Yes}
use Rattle.chan_walk.specs.Argument.{IsChain, joined, argument}
use Rattle.chan_walk.specs.Fault.{is_known, begins_seek, allows}
use Rattle.chan_walk.specs.Guarded.{IsGuarded}
use Rattle.chan_walk.specs.Job.{storage_of, extents_of, fetch_of, store_of, HasMask}
use Rattle.chan_walk.specs.Machine.{Stage, At, Ended, Checked, Event, Command, Store, Fetch, Gather}
use Rattle.chan_walk.specs.Machine.{Seek, SetMask}
use Rattle.chan_walk.specs.Place.{ccw_of}
use Rattle.chan_walk.specs.Reachable.{IsReachable}
use Rattle.chan_walk.specs.Runs.{Moment, IsRun, IsRunAmong, Uses}
use Rattle.chan_walk.specs.Verdict.{IsVerdict}

-- an event that does no harm: a command of the table that isn't inhibited, a store and a fetch
-- inside lent areas, a seek that is allowed, a mask byte at least as strict as the job's mask
abbrev pub IsSafeEvent : Job → Event → Type 0
IsSafeEvent j (Command code) = (is_known code ≡ true) × (inhibits j.mask code ≡ false)
IsSafeEvent j (Store a bytes) =
    (b : ℕ) → a ≤ b → b < a + length bytes → lies_in (store_of j) b ≡ true
IsSafeEvent j (Fetch a n) = (b : ℕ) → a ≤ b → b < a + n → lies_in (fetch_of j) b ≡ true
IsSafeEvent j (Gather addresses) = Unit {0}
IsSafeEvent j (Seek (Some x)) = allows j x ≡ true
IsSafeEvent j (Seek None) = ⊥
IsSafeEvent j (SetMask a x) = is_at_least x j.mask ≡ true

-- no program check stopped the program
abbrev pub MeetsNoProgramCheck : Stage → Type 0
MeetsNoProgramCheck (At p g) = Unit {0}
MeetsNoProgramCheck Ended = Unit {0}
MeetsNoProgramCheck (Checked r) = ⊥

-- a moment of a safe run
pub record IsSafeMoment (j : Job) (m : Moment) : Type 0 where
  pub unchecked : MeetsNoProgramCheck m.stage
  pub inside : has_cylinder (extents_of j) m.arm ≡ true
  pub strict : is_at_least m.mask j.mask ≡ true
  pub events : AllByRecursion (IsSafeEvent j) m.events

-- each of these runs is safe
abbrev pub AreSafe : Job → (List Moment → Type 0) → Type 0
AreSafe j R = (run : List Moment) → R run → AllByRecursion (IsSafeMoment j) run

-- every run is safe
abbrev pub IsSafe : Job → Type 0
IsSafe j = AreSafe j (IsRun j)

-- the byte at b is what it was in the initial storage
abbrev pub HoldsInitialByte : Job → ℕ → Moment → Type 0
HoldsInitialByte j b m = byte m.storage b ≡ byte (storage_of j) b

-- what one of these runs uses never changes, in any of them
abbrev pub AreSteady : Job → (List Moment → Type 0) → Type 0
AreSteady j R =
    (used run : List Moment) (b : ℕ) → R used → Uses used b → R run
    → AllByRecursion (HoldsInitialByte j b) run

-- the job is steady: what some run uses never changes, in any run
abbrev pub IsSteady : Job → Type 0
IsSteady j = AreSteady j (IsRun j)

-- the headline: where the job's mask is a mask and the verdict is yes, every run is safe and the
-- job is steady
abbrev pub YesIsSafe : Type 0
YesIsSafe = (j : Job) → HasMask j → IsVerdict j Yes → IsSafe j × IsSteady j

-- ---- among others

-- a run among others that change no guarded byte
abbrev pub IsSpared : Job → List Moment → Type 0
IsSpared j = IsRunAmong (IsGuarded j) j

-- every such run is safe
abbrev pub IsSafeAmong : Job → Type 0
IsSafeAmong j = AreSafe j (IsSpared j)

-- what some such run uses never changes, in any of them
abbrev pub IsSteadyAmong : Job → Type 0
IsSteadyAmong j = AreSteady j (IsSpared j)

-- the headline among others: every such run is safe too, and the job is steady in them
abbrev pub YesIsSafeAmong : Type 0
YesIsSafeAmong = (j : Job) → HasMask j → IsVerdict j Yes → IsSafeAmong j × IsSteadyAmong j

-- ---- the laws that carry it

-- where the verdict is yes, P holds at each moment of each run among others that change no guarded
-- byte; a run by itself is one of these, in which they do nothing
abbrev pub EachMomentOfYes : (Job → Moment → Type 0) → Type 0
EachMomentOfYes P =
    (j : Job) → IsVerdict j Yes → (run : List Moment) → IsSpared j run → AllByRecursion (P j) run

-- guarded bytes never change
abbrev pub GuardedStays : Type 0
GuardedStays = EachMomentOfYes (λ j m. (b : ℕ) → IsGuarded j b → HoldsInitialByte j b m)

-- a stage's place is reachable
abbrev pub IsAtReachable : Job → Stage → Type 0
IsAtReachable j (At p g) = IsReachable j p
IsAtReachable j Ended = Unit {0}
IsAtReachable j (Checked r) = Unit {0}

-- every place of every run is reachable
abbrev pub StaysReachable : Type 0
StaysReachable = EachMomentOfYes (λ j m. IsAtReachable j m.stage)

-- at p the data chain goes on with the CCW at a: p is there, or at a transfer in channel that leads
-- there
abbrev pub ChainComesTo : List ℕ → Place → ℕ → Type 0
ChainComesTo s p a =
    (p.address ≡ a) ⊎ ((p.after_transfer ≡ false) × Stands s p.address
    × (is_transfer (ccw s p.address) ≡ true) × ((ccw s p.address).address ≡ a))

-- a seek whose chain is l has come to p with the bytes x: they are the first of the chain, fewer
-- than six, and the rest of the chain lies ahead of p
pub record IsGathered (s l : List ℕ) (p : Place) (x : List ℕ) : Type 0 where
  pub before : List ℕ
  pub rest : List ℕ
  pub at : ℕ
  pub leads : ChainComesTo s p at
  pub chain : IsChain s (6 - length before) at rest
  pub all : before ++ joined s rest ≡ joined s l
  pub few : length before < 6
  pub read : x ≡ map (byte s) before

-- x, followed by the rest of its chain from p on, is the allowed argument of a reachable seek
pub record IsPartOfSeek (j : Job) (p : Place) (x : List ℕ) : Type 0 where
  pub seek : Place
  pub reached : IsReachable j seek
  pub seeks : begins_seek seek (ccw_of j seek) ≡ true
  pub chain : List ℕ
  pub is_chain : IsChain (storage_of j) 6 seek.address chain
  pub gathered : IsGathered (storage_of j) chain p x
  pub allowed : allows j (argument (storage_of j) chain) ≡ true

-- so is what a stage has gathered
abbrev pub GathersPart : Job → Stage → Type 0
GathersPart j (At p None) = Unit {0}
GathersPart j (At p (Some x)) = IsPartOfSeek j p x
GathersPart j Ended = Unit {0}
GathersPart j (Checked r) = Unit {0}

-- what is gathered, followed by the rest of its chain, is the allowed argument of a reachable seek
abbrev pub GathersArguments : Type 0
GathersArguments = EachMomentOfYes (λ j m. GathersPart j m.stage)
