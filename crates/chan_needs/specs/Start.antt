-- Whether a program that is remembered may start beside those in flight.
use Rattle.std.specs.Prelude.{◌≡◌, ◌≢◌, ℕ, ◌<◌, true, false, List, length, ◌⊎◌, ◌↔◌}
use Rattle.std.specs.List.{All, AllWithin}
use Rattle.ccw_core.specs.declared.areas.Area.{Area}
use Rattle.ccw_core.specs.Areas.{lies_in}
use Rattle.ckd_core.specs.Extents.{has_cylinder}
use Rattle.ckd_core.specs.Mask.{is_at_least}
use Rattle.chan_walk.specs.declared.job.Job.{Job}
use Rattle.chan_needs.specs.declared.layout.Remembered.{Remembered}
use Rattle.chan_needs.specs.declared.start.StartRefusal.{StartRefusal}
use Rattle.chan_needs.specs.declared.start.StartRefusal.TheVariants as why
use Rattle.chan_needs.specs.declared.start.Start.{Start}
use Rattle.chan_needs.specs.declared.start.Start.TheVariants as answer
use Rattle.chan_areas.specs.Merged.{IsLeastOf}
use Rattle.chan_needs.specs.History.{MayStart, Situation}
use Rattle.chan_walk.specs.Job.{storage_of, extents_of, fetch_of, store_of}
use Rattle.chan_needs.specs.Needs.{Grants, KeepsProgram}
use Rattle.chan_needs.specs.Listed.{AreNeeds, Listed, AreProgramsCompatible}
use Rattle.chan_needs.specs.Listed.{listed_in, AreNeedsCompatible, IsConflict}
use Rattle.chan_walk.specs.Runs.{IsStart, Moment}
use Rattle.chan_needs.specs.Remembered.{IsFirstChanged, HoldsKept, IsInFlightAt, IsRemembered}
use Rattle.chan_needs.specs.Remembered.{IsInFlight, AreInFlight, device_number}

-- ---- the four conditions of a start

-- the job is of the program, whatever storage holds
pub record IsOfProgram (j : Job) (p : Remembered) : Type 0 where
  pub start : j.start ≡ p.start
  pub device : device_number j.device ≡ p.device
  pub storage_len : length (storage_of j) ≡ p.needs.storage_len

-- the byte at b is one of storage, and lies in an area lent
abbrev pub IsLent : Job → List Area → ℕ → Type 0
IsLent j lent b = (b < length (storage_of j)) × (lies_in lent b ≡ true)

-- the job grants what is listed
pub record GrantsListed (j : Job) (n : Listed) : Type 0 where
  pub mask : is_at_least n.mask j.mask ≡ true
  pub extents :
      (c : ℕ) → has_cylinder n.extents c ≡ true → has_cylinder (extents_of j) c ≡ true
  pub fetch : (b : ℕ) → lies_in n.fetch b ≡ true → IsLent j (fetch_of j) b
  pub store : (b : ℕ) → lies_in n.store b ≡ true → IsLent j (store_of j) b

-- two programs that are remembered are compatible
abbrev pub IsCompatibleWith : Remembered → Remembered → Type 0
IsCompatibleWith p f = AreNeedsCompatible (listed_in p.needs) (listed_in f.needs)

-- no refusal is in vain: if the needs of a program are listed, a job whose storage is as long
-- grants what is listed exactly if it grants the needs, and two programs are compatible by
-- their lists exactly if they are
pub record ListedIsExact : Type 0 where
  pub grants :
      (j k : Job) (n : Listed) → AreNeeds j n → length (storage_of k) ≡ n.storage_len
      → GrantsListed k n ↔ Grants j k
  pub compatible :
      (j k : Job) (n m : Listed) → AreNeeds j n → AreNeeds k m
      → AreNeedsCompatible n m ↔ AreProgramsCompatible j k

-- all four
pub record IsFit (j : Job) (p : Remembered) (fs : List Remembered) : Type 0 where
  pub program : IsOfProgram j p
  pub kept : HoldsKept j p
  pub granted : GrantsListed j (listed_in p.needs)
  pub compatible : All (IsCompatibleWith p) fs

-- a job that grants what the program needs, over storage that holds what was kept, fits what is
-- remembered, if the program is compatible with each in flight
abbrev pub RememberedIsFit : Type 0
RememberedIsFit =
    (j k : Job) (p : Remembered) (fs : List Remembered) → IsRemembered j p → KeepsProgram j k
    → HoldsKept k p → Grants j k → All (IsCompatibleWith p) fs → IsFit k p fs

-- ---- what is wrong if one of them fails

-- with the program: its start, else its device, else the length of storage
abbrev pub IsOfAnother : Job → Remembered → StartRefusal → Type 0
IsOfAnother j p why.OtherStart = j.start ≢ p.start
IsOfAnother j p why.OtherDevice = (j.start ≡ p.start) × (device_number j.device ≢ p.device)
IsOfAnother j p why.OtherLength =
    (j.start ≡ p.start) × (device_number j.device ≡ p.device)
    × (length (storage_of j) ≢ p.needs.storage_len)
IsOfAnother j p _ = ⊥

-- with the kept bytes
abbrev pub HasChanged : Job → Remembered → StartRefusal → Type 0
HasChanged j p (why.Changed b) = IsFirstChanged (storage_of j) p.needs.keep.now p.kept.now b
HasChanged j p _ = ⊥

-- the cylinder is listed, and lies in no extent
abbrev pub LacksCylinder : Job → Listed → ℕ → Type 0
LacksCylinder j n c =
    (has_cylinder n.extents c ≡ true) × (has_cylinder (extents_of j) c ≡ false)

-- the byte at b is listed, and isn't one of storage that was lent
abbrev pub LacksByte : Job → List Area → List Area → ℕ → Type 0
LacksByte j listed lent b = (lies_in listed b ≡ true) × (IsLent j lent b → ⊥)

-- with the grants: the mask, else the least cylinder, else the least byte for fetching, else the
-- least byte for storing
abbrev pub IsNotGranted : Job → Listed → StartRefusal → Type 0
IsNotGranted j n why.Mask = is_at_least n.mask j.mask ≡ false
IsNotGranted j n (why.Cylinder c) =
    (is_at_least n.mask j.mask ≡ true) × IsLeastOf (LacksCylinder j n) c
IsNotGranted j n (why.Fetch b) =
    (is_at_least n.mask j.mask ≡ true) × ((c : ℕ) → LacksCylinder j n c → ⊥)
    × IsLeastOf (LacksByte j n.fetch (fetch_of j)) b
IsNotGranted j n (why.Store b) =
    (is_at_least n.mask j.mask ≡ true) × ((c : ℕ) → LacksCylinder j n c → ⊥)
    × ((b : ℕ) → LacksByte j n.fetch (fetch_of j) b → ⊥)
    × IsLeastOf (LacksByte j n.store (store_of j)) b
IsNotGranted j n _ = ⊥

-- with the programs in flight: the first with which it isn't compatible
abbrev pub HasConflictInFlight : Remembered → List Remembered → StartRefusal → Type 0
HasConflictInFlight p fs (why.Conflict i c) =
    (f : Remembered) × IsInFlightAt fs i f × AllWithin (IsCompatibleWith p) fs 0 i
    × IsConflict (listed_in p.needs) (listed_in f.needs) c
HasConflictInFlight p fs _ = ⊥

-- the first of the four that fails, and what is wrong
abbrev pub IsStartRefusal : Job → Remembered → List Remembered → StartRefusal → Type 0
IsStartRefusal j p fs r =
    IsOfAnother j p r
    ⊎ (IsOfProgram j p × HasChanged j p r)
    ⊎ (IsOfProgram j p × HoldsKept j p × IsNotGranted j (listed_in p.needs) r)
    ⊎ (IsOfProgram j p × HoldsKept j p × GrantsListed j (listed_in p.needs)
    × HasConflictInFlight p fs r)

-- the answer
abbrev pub IsAnswerOf : Job → Remembered → List Remembered → Start → Type 0
IsAnswerOf j p fs answer.Yes = IsFit j p fs
IsAnswerOf j p fs (answer.No r) = IsStartRefusal j p fs r

-- there is no other answer
abbrev pub OneAnswer : Type 0
OneAnswer =
    (j : Job) (p : Remembered) (fs : List Remembered) (one other : Start)
    → IsAnswerOf j p fs one → IsAnswerOf j p fs other → one ≡ other

-- ---- if what is remembered is true

-- the program may then start at each moment at which a run of the job may begin, and what is
-- remembered is true of it in flight
abbrev pub StartsWell : Job → Remembered → List Remembered → Type 0
StartsWell j p fs =
    (asked : Job) (a : Situation) (m : Moment) → IsRemembered asked p → AreInFlight a fs
    → IsStart j m → MayStart a (record { job = j; moment = m }) × IsInFlight p j
