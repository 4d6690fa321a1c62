-- What a supervisor remembers of programs: what they keep, and whether others may write while they
-- run.
use Rattle.std.specs.Prelude.{◌≡◌, ℕ, ◌+◌, ◌-◌, ◌^◌, ◌<◌, ◌≤◌, List, [], ◌∷◌, ◌++◌, drop}
use Rattle.std.specs.Prelude.{length, take, Option, None, Some, true, ◌⊎◌}
use Rattle.std.specs.List.{All, AllWithin, HoldsAt}
use Rattle.ccw_core.specs.declared.areas.Area.{Area}
use Rattle.ccw_core.specs.Areas.{end_of, lies_in}
use Rattle.ccw_core.specs.Ccw.{byte}
use Rattle.ckd_core.specs.declared.device.Device.{Device}
use Rattle.ckd_core.specs.declared.device.Device.TheVariants.{D2311, D2314}
use Rattle.chan_walk.specs.declared.job.Job.{Job}
use Rattle.chan_needs.specs.declared.layout.Remembered.{Remembered}
use Rattle.chan_walk.specs.declared.verdict.Verdict.TheVariants.{Yes}
use Rattle.chan_walk.specs.Alarm.{IsProper}
use Rattle.chan_areas.specs.Merged.{IsLeastOf, IsByteOf}
use Rattle.chan_needs.specs.History.{Flight, GoesOnTo, IsHistory, Situation}
use Rattle.chan_walk.specs.Job.{storage_of}
use Rattle.chan_needs.specs.Needs.{KeepsProgram}
use Rattle.chan_needs.specs.Listed.{AreNeeds, listed_in, IsKeptIn}
use Rattle.chan_walk.specs.Runs.{IsSameIn}
use Rattle.chan_walk.specs.Verdict.{IsVerdict}

-- ---- the bytes that are kept

-- byte i of an area is one of storage, and it is what it was
abbrev pub HoldsByte : List ℕ → Area → List ℕ → ℕ → Type 0
HoldsByte s a kept i =
    (a.start + i < length s) × (i < length kept) × (byte s (a.start + i) ≡ byte kept i)

-- so is each byte of the area
abbrev pub HoldsArea : List ℕ → Area → List ℕ → Type 0
HoldsArea s a kept = (i : ℕ) → i < a.len → HoldsByte s a kept i

-- storage holds these bytes in the areas, one area after another; those after them don't matter
abbrev pub HoldsAreas : List ℕ → List Area → List ℕ → Type 0
HoldsAreas s [] kept = Unit {0}
HoldsAreas s (a ∷ areas) kept = HoldsArea s a kept × HoldsAreas s areas (drop a.len kept)

-- b is the first byte of an area that isn't what it was
pub record IsFirstChangedIn (s : List ℕ) (a : Area) (kept : List ℕ) (b : ℕ) : Type 0 where
  pub number : ℕ
  pub within : number < a.len
  pub at : b ≡ a.start + number
  pub before : (i : ℕ) → i < number → HoldsByte s a kept i
  pub changed : HoldsByte s a kept number → ⊥

-- b is the first such byte, in the order of the areas
abbrev pub IsFirstChanged : List ℕ → List Area → List ℕ → ℕ → Type 0
IsFirstChanged s [] kept b = ⊥
IsFirstChanged s (a ∷ areas) kept b =
    IsFirstChangedIn s a kept b
    ⊎ (HoldsArea s a kept × IsFirstChanged s areas (drop a.len kept) b)

-- the area lies in storage
abbrev pub IsInside : List ℕ → Area → Type 0
IsInside s a = end_of a ≤ length s

-- the bytes of storage in the areas, one area after another
abbrev pub bytes_in : List ℕ → List Area → List ℕ
bytes_in s [] = []
bytes_in s (a ∷ areas) = take a.len (drop a.start s) ++ bytes_in s areas

-- storage holds what was kept
abbrev pub HoldsKept : Job → Remembered → Type 0
HoldsKept j p = HoldsAreas (storage_of j) p.needs.keep.now p.kept.now

-- how many bytes the areas have together
abbrev pub total_len : List Area → ℕ
total_len [] = 0
total_len (a ∷ areas) = a.len + total_len areas

-- ---- what is remembered is true

-- the number by which a device is remembered
abbrev pub device_number : Device → ℕ
device_number D2311 = 2311
device_number D2314 = 2314

-- this is remembered of the program of j: some job will do for it, and these are its needs and the
-- bytes that it keeps
pub record IsRemembered (j : Job) (p : Remembered) : Type 0 where
  pub needs : AreNeeds j (listed_in p.needs)
  pub start : j.start ≡ p.start
  pub device : device_number j.device ≡ p.device
  pub kept : HoldsKept j p

-- the program of k, in flight with a yes, is the one that was asked about; only bytes of storage
-- that aren't kept may differ
pub record IsInFlight (p : Remembered) (k : Job) : Type 0 where
  pub asked : Job
  pub needs : AreNeeds asked (listed_in p.needs)
  pub program : KeepsProgram asked k
  pub proper : IsProper k
  pub verdict : IsVerdict k Yes

-- f is number i of those in flight
abbrev pub IsInFlightAt : List Remembered → ℕ → Remembered → Type 0
IsInFlightAt fs i f = (i < length fs) × HoldsAt (λ (g : Remembered). g ≡ f) fs i

-- each program in flight is one of those in the list
abbrev pub AreInFlight : Situation → List Remembered → Type 0
AreInFlight a fs =
    (i : ℕ) (g : Flight) → a.at i ≡ Some g
    → (n : ℕ) × (f : Remembered) × IsInFlightAt fs n f × IsInFlight f g.job

-- ---- writes by others

-- the program keeps no byte of the area
abbrev pub KeepsNone : Area → Remembered → Type 0
KeepsNone a f = (b : ℕ) → IsKeptIn (listed_in f.needs) a b → ⊥

-- no program keeps a byte of the area, or this is the first that does, and the least such byte
abbrev pub IsKeeperOf : List Remembered → Area → Option (ℕ × ℕ) → Type 0
IsKeeperOf fs a None = All (KeepsNone a) fs
IsKeeperOf fs a (Some (i, b)) =
    (f : Remembered) × IsInFlightAt fs i f
    × AllWithin (KeepsNone a) fs 0 i × IsLeastOf (IsKeptIn (listed_in f.needs) a) b

-- the byte at b is kept, and b is past all storage or lies in no area
abbrev pub IsKeptOutside : List Area → List Area → ℕ → Type 0
IsKeptOutside keep areas b =
    (lies_in keep b ≡ true) × ((b < 2 ^ 32 - 1) × (lies_in areas b ≡ true) → ⊥)

-- a write that shares no byte with the areas meets none that is kept
abbrev pub SparesOutside : List Area → List Area → Type 0
SparesOutside keep areas =
    (a : Area) → ((b : ℕ) → IsByteOf a b → lies_in areas b ≡ true → ⊥)
    → (b : ℕ) → IsByteOf a b → lies_in keep b ≡ true → ⊥

-- storage becomes t, in bytes of the area alone
abbrev pub IsWritten : Area → List ℕ → List ℕ → Type 0
IsWritten area = IsSameIn (λ b. IsByteOf area b → ⊥)

-- others may write any bytes into the area: the history goes on with them
abbrev pub WritesWell : List Remembered → Area → Type 0
WritesWell fs area =
    (a : Situation) (before : List Situation) (t : List ℕ) → IsHistory (a ∷ before)
    → AreInFlight a fs → IsWritten area a.storage t → GoesOnTo (a ∷ before) t

-- ---- what the answers name

-- the keeper that is named is the first, with its least byte, none is named exactly if there is
-- none, and the byte that has changed is the first: there is no other answer
pub record NamedIsFirst : Type 0 where
  pub keeper :
      (fs : List Remembered) (a : Area) (one other : Option (ℕ × ℕ)) → IsKeeperOf fs a one
      → IsKeeperOf fs a other → one ≡ other
  pub changed :
      (s : List ℕ) (areas : List Area) (kept : List ℕ) (b c : ℕ) → IsFirstChanged s areas kept b
      → IsFirstChanged s areas kept c → b ≡ c
