-- Areas of storage merged into one list, and ranges that meet such a list.
use Rattle.std.specs.Prelude.{◌≡◌, ℕ, ◌+◌, ◌<◌, ◌≤◌, ◌^◌, true, false, List, [], ◌∷◌, ◌++◌, Option}
use Rattle.std.specs.Prelude.{None, Some, ◌↔◌, Bool}
use Rattle.ccw_core.specs.declared.areas.Area.{Area}
use Rattle.ccw_core.specs.Areas.{end_of, lies_in}

-- the address of an area's first byte
abbrev pub start_of : Area → ℕ
start_of a = a.start

-- the byte at b is one of the area
abbrev pub IsByteOf : Area → ℕ → Type 0
IsByteOf a b = (a.start ≤ b) × (b < end_of a)

-- the area ends below n
abbrev pub EndsBelow : ℕ → Area → Type 0
EndsBelow n a = end_of a < n

-- each area begins above n
abbrev pub BeginAbove : ℕ → List Area → Type 0
BeginAbove n [] = Unit {0}
BeginAbove n (a ∷ rest) = (n < a.start) × BeginAbove n rest

-- no area is empty, they are in order of start, and at least one byte lies between two
abbrev pub IsMerged : List Area → Type 0
IsMerged [] = Unit {0}
IsMerged (a ∷ rest) = (0 < a.len) × BeginAbove (end_of a) rest × IsMerged rest

-- the areas are the one merged list of the bytes for which P holds
pub record AreExactly (P : ℕ → Type 0) (areas : List Area) : Type 0 where
  pub merged : IsMerged areas
  pub bytes : (b : ℕ) → (lies_in areas b ≡ true) ↔ P b

-- the same bytes lie in some area of either list
abbrev pub HaveSameBytes : List Area → List Area → Type 0
HaveSameBytes xs ys = (b : ℕ) → lies_in xs b ≡ lies_in ys b

-- b is in the range, and lies in some area
abbrev pub IsByteIn : List Area → ℕ → ℕ → ℕ → Type 0
IsByteIn areas start len b = (start ≤ b) × (b < start + len) × (lies_in areas b ≡ true)

-- a byte of the range lies in some area
pub record Meets (areas : List Area) (start len : ℕ) : Type 0 where
  pub at : ℕ
  pub from : start ≤ at
  pub below : at < start + len
  pub lies : lies_in areas at ≡ true

-- what a run and the next area are together: a run that begins no earlier than the old one and no
-- later than the area, and has the bytes of both
pub record IsOneRun (run area r : Area) : Type 0 where
  pub later : run.start ≤ r.start
  pub order : r.start ≤ area.start
  pub low : EndsBelow (2 ^ 32) r
  pub bytes : (xs : List Area) → HaveSameBytes (xs ++ r ∷ []) (xs ++ run ∷ area ∷ [])

-- the same, or that neither is empty and a byte lies between them
abbrev pub IsJoined : Area → Area → Option Area → Type 0
IsJoined run area None = (0 < run.len) × (0 < area.len) × (end_of run < area.start)
IsJoined run area (Some r) = IsOneRun run area r

-- the area begins no earlier than the run, and each ends below 2^32
abbrev pub AreInOrder : Area → Area → Type 0
AreInOrder run area = (run.start ≤ area.start) × EndsBelow (2 ^ 32) run × EndsBelow (2 ^ 32) area

-- the run r that is left of a run where the next area went into it, or stayed
abbrev pub LeavesRun : Area → Area → Bool → Area → Type 0
LeavesRun run area true r = AreInOrder run area → IsOneRun run area r
LeavesRun run area false r = (r ≡ run) × (AreInOrder run area → IsJoined run area None)

-- the first area of a merged list that ends above n: all that it says of the bytes from n on, up to
-- the one after the area
pub record IsFirstAbove (areas : List Area) (n : ℕ) (a : Area) : Type 0 where
  pub ends : n < end_of a
  pub low : EndsBelow (2 ^ 32) a
  pub filled : 0 < a.len
  pub before : (b : ℕ) → n ≤ b → b < a.start → lies_in areas b ≡ false
  pub inside : (b : ℕ) → a.start ≤ b → b < end_of a → lies_in areas b ≡ true
  pub after : lies_in areas (end_of a) ≡ false

-- the same, or that no byte from n on lies in an area
abbrev pub IsNextArea : List Area → ℕ → Option Area → Type 0
IsNextArea areas n None = (b : ℕ) → n ≤ b → lies_in areas b ≡ false
IsNextArea areas n (Some a) = IsFirstAbove areas n a

-- there is at most one merged list for some bytes
abbrev pub MergedIsUnique : Type 0
MergedIsUnique = (xs ys : List Area) → IsMerged xs → IsMerged ys → HaveSameBytes xs ys → xs ≡ ys

-- the least number for which P holds
abbrev pub IsLeastOf : (ℕ → Type 0) → ℕ → Type 0
IsLeastOf P n = P n × ((m : ℕ) → P m → n ≤ m)

-- the same, or that there is none
abbrev pub IsLeastOrNone : (ℕ → Type 0) → Option ℕ → Type 0
IsLeastOrNone P None = (n : ℕ) → P n → ⊥
IsLeastOrNone P (Some n) = IsLeastOf P n
