-- What the machine leaves free: whatever the device gives, and wherever arm, mask and program may
-- go, some step does just that. So no law holds because the machine does too little.
use Rattle.std.specs.Prelude.{◌≡◌, ℕ, ◌+◌, ◌<◌, ◌≤◌, true, false, if◌then◌else◌, List, [], ◌∷◌}
use Rattle.std.specs.Prelude.{◌++◌, take, drop, length, Some, None, ◌⊎◌, ◌==◌}
use Rattle.std.specs.List.{AllByRecursion}
use Rattle.ccw_core.specs.Ccw.{byte, Fields, ccw, is_transfer, skips, chains_data}
use Rattle.ckd_core.specs.declared.command.Kind.{Kind}
use Rattle.ckd_core.specs.declared.command.Kind.TheVariants.{Idle, Inward, Outward, Search}
use Rattle.ckd_core.specs.Mask.{is_mask}
use Rattle.ckd_core.specs.Track.{cylinder_of}
use Rattle.chan_walk.specs.declared.job.Job.{Job}
use Rattle.chan_walk.specs.declared.place.Entry.TheVariants.{Fresh}
use Rattle.chan_walk.specs.declared.place.Place.{Place}
use Rattle.chan_walk.specs.declared.setting.Setting.{Setting}
use Rattle.chan_walk.specs.declared.setting.Setting.TheVariants.{Arm, Mask}
use Rattle.chan_walk.specs.Argument.{Has}
use Rattle.chan_walk.specs.Fault.{kind_of, is_known, begins_seek, begins_recalibrate}
use Rattle.chan_walk.specs.Fault.{begins_set_mask}
use Rattle.chan_walk.specs.Job.{storage_of}
use Rattle.chan_walk.specs.Machine.{Gathered, Stage, At, Ended, Checked, Event, Fetch, MovesData}
use Rattle.chan_walk.specs.Machine.{Step, Store, under_way, with_taken}
use Rattle.chan_walk.specs.Place.{ccw_of, is_fresh, straight_to}
use Rattle.chan_walk.specs.ProgramCheck.{program_check}
use Rattle.chan_walk.specs.Setting.{IsSetting}
use Rattle.chan_walk.specs.Successor.{next_of, skip_of}

-- the channel carries out the CCW at p: it meets no program check and no transfer there, and knows
-- the command that begins there, if one does
pub record CarriesOutCcw (s : List ℕ) (p : Place) : Type 0 where
  pub unchecked : program_check s p ≡ None
  pub no_transfer : is_transfer (ccw s p.address) ≡ false
  pub known : is_fresh p.entered ≡ true → is_known (ccw s p.address).command ≡ true

-- a seek under way still lacks a byte
abbrev pub IsUnfinished : Gathered → Type 0
IsUnfinished None = Unit {0}
IsUnfinished (Some x) = length x < 6

-- an operation of this kind may move m bytes by the CCW c: at most its count, and none if it moves
-- no data
abbrev pub MayMove : Kind → Fields → ℕ → Type 0
MayMove k c m = (m ≤ c.count) × (k ≡ Idle → m ≡ 0)

-- storage s after these bytes were moved: an operation that stores leaves them there
abbrev pub moved_into : Kind → Fields → List ℕ → List ℕ → List ℕ
moved_into Inward c bytes s =
    if skips c then s else take c.address s ++ (bytes ++ drop (c.address + length bytes) s)
moved_into Idle c bytes s = s
moved_into Outward c bytes s = s
moved_into Search c bytes s = s

-- the arm at cylinder y may then be at z: where it was, where the seek that m bytes complete sends
-- it, or at cylinder 0 by Recalibrate
abbrev pub MayStandAt : List ℕ → Place → Gathered → ℕ → ℕ → ℕ → Type 0
MayStandAt s p g m y z =
    (z ≡ y)
    ⊎ ((x : List ℕ) × (under_way p (ccw s p.address) g ≡ Some x)
    × (length (with_taken s (ccw s p.address) m x) ≡ 6)
    × (z ≡ cylinder_of (with_taken s (ccw s p.address) m x)))
    ⊎ ((begins_recalibrate p (ccw s p.address) ≡ true) × (z ≡ 0))

-- the mask f may then be h: itself, or the mask that Set File Mask takes
abbrev pub MayBeMask : List ℕ → Place → ℕ → ℕ → ℕ → Type 0
MayBeMask s p m f h =
    (h ≡ f)
    ⊎ ((begins_set_mask p (ccw s p.address) ≡ true) × (0 < m)
    × (is_mask (byte s (ccw s p.address).address) ≡ true)
    × (h ≡ byte s (ccw s p.address).address))

-- what a seek under way then has: nothing more to take once it has six bytes
abbrev pub left_of : List ℕ → Fields → ℕ → Gathered → Gathered
left_of s c m None = None
left_of s c m (Some x) =
    if length (with_taken s c m x) == 6 then None else Some (with_taken s c m x)

-- the program may then end or come to a successor: by data chaining after the whole count, by
-- command chaining if no seek lacks a byte
abbrev pub MayComeTo : List ℕ → Place → Gathered → ℕ → Stage → Type 0
MayComeTo s p g m Ended = Unit {0}
MayComeTo s p g m (Checked r) = ⊥
MayComeTo s p g m (At q h) =
    (h ≡ left_of s (ccw s p.address) m (under_way p (ccw s p.address) g))
    × (chains_data (ccw s p.address) ≡ true → m ≡ (ccw s p.address).count)
    × (chains_data (ccw s p.address) ≡ false → h ≡ None)
    × ((next_of p (ccw s p.address) (kind_of p.entered (ccw s p.address)) ≡ Some q)
    ⊎ (skip_of p (ccw s p.address) (kind_of p.entered (ccw s p.address)) ≡ Some q))

-- an operation of this kind may fetch the whole data range, whatever it moves
abbrev pub FetchesAhead : Kind → Fields → List Event → Type 0
FetchesAhead Idle c es = Unit {0}
FetchesAhead Inward c es = Unit {0}
FetchesAhead Outward c es = Has es (Fetch c.address c.count)
FetchesAhead Search c es = Has es (Fetch c.address c.count)

-- some step from p leads to storage t, cylinder z, mask h and the stage
pub record CanStep (s : List ℕ) (y f : ℕ) (p : Place) (g : Gathered) (t : List ℕ) (z h : ℕ)
    (stage : Stage) : Type 0 where
  pub events : List Event
  pub step : Step s y f p g events t z h stage
  pub ahead : FetchesAhead (kind_of p.entered (ccw s p.address)) (ccw s p.address) events

-- where a CCW is carried out, each number of bytes, whatever they are, each cylinder, each mask and
-- each stage that may come does come
abbrev pub MachineIsFree : Type 0
MachineIsFree =
    (s : List ℕ) (y f : ℕ) (p : Place) (g : Gathered) → CarriesOutCcw s p → IsUnfinished g
    → (bytes : List ℕ) → AllByRecursion (λ b. b < 256) bytes
    → MayMove (kind_of p.entered (ccw s p.address)) (ccw s p.address) (length bytes)
    → (z : ℕ) → MayStandAt s p g (length bytes) y z
    → (h : ℕ) → MayBeMask s p (length bytes) f h
    → (stage : Stage) → MayComeTo s p g (length bytes) stage
    → CanStep s y f p g
    (moved_into (kind_of p.entered (ccw s p.address)) (ccw s p.address) bytes s) z h stage

-- a seek at address 0 with command chaining, and its argument behind it: cylinder 10, head 0
abbrev pub one_seek : List ℕ
one_seek =
    7 ∷ 0 ∷ 0 ∷ 8 ∷ 64 ∷ 0 ∷ 0 ∷ 6 ∷ 0 ∷ 0 ∷ 0 ∷ 10 ∷ 0 ∷ 0 ∷ 0 ∷ 0 ∷ []

-- all that the law on the free machine asks for holds of this seek, when it takes its argument: the
-- arm goes to cylinder 10, and the program to the next CCW
pub record SeekIsFree : Type 0 where
  pub carried : CarriesOutCcw one_seek (straight_to 0 Fresh)
  pub unfinished : IsUnfinished None
  pub moves : MayMove (kind_of Fresh (ccw one_seek 0)) (ccw one_seek 0) 6
  pub arm : (y : ℕ) → MayStandAt one_seek (straight_to 0 Fresh) None 6 y 10
  pub mask : (f : ℕ) → MayBeMask one_seek (straight_to 0 Fresh) 6 f f
  pub goes_on : MayComeTo one_seek (straight_to 0 Fresh) None 6 (At (straight_to 8 Fresh) None)

-- what is stored is there afterwards
abbrev pub StoredIsThere : Type 0
StoredIsThere =
    (c : Fields) (m : ℕ) (s t : List ℕ) (k : Kind) (es : List Event) → MovesData c m s k es t
    → (a : ℕ) (bytes : List ℕ) → Has es (Store a bytes)
    → (i : ℕ) → i < length bytes → byte t (a + i) ≡ byte bytes i

-- storage s, cylinder y and mask f, after which some step from p has what is set
abbrev pub CanSet : Setting → List ℕ → ℕ → ℕ → Place → Type 0
CanSet (Arm track) s y f p = (t : List ℕ) × (h : ℕ) × CanStep s y f p None t track.cylinder h Ended
CanSet (Mask b) s y f p = (t : List ℕ) × (z : ℕ) × CanStep s y f p None t z b Ended

-- what is said to be set at a place can be set there: the mask, if it is one; and the cylinder, if
-- the seek's own CCW has its argument
abbrev pub SettingCanBe : Type 0
SettingCanBe =
    (j : Job) (p : Place) (o : Setting) (y f : ℕ) → CarriesOutCcw (storage_of j) p
    → IsSetting j p (Some o)
    → (begins_seek p (ccw_of j p) ≡ true → 6 ≤ (ccw_of j p).count)
    → ((b : ℕ) → o ≡ Mask b → is_mask b ≡ true)
    → CanSet o (storage_of j) y f p
