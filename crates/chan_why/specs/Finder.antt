-- Indexes of what a walk has looked at: for a key the first of the looks that have it.
use Rattle.std.specs.Prelude.{◌≡◌, ℕ, ◌+◌, ◌*◌, ◌<◌, min, List, length, slice_get, Option, None}
use Rattle.std.specs.Prelude.{Some, ◌⊎◌}
use Rattle.std.specs.Ordering.{nat_cmp}
use Rattle.std.specs.BTreeMap.{BTreeMap}
use Rattle.std.specs.BTreeMap as tree
use Rattle.chan_why.specs.declared.finder.Finder.{Finder}
use Rattle.chan_walk.specs.declared.offence.Offence.{Offence}
use Rattle.chan_walk.specs.Argument.{Has}
use Rattle.chan_areas.specs.Merged.{IsLeastOrNone}
use Rattle.chan_walk.specs.Look.{Seen, argument_seen}
use Rattle.chan_walk.specs.Reason.{number_of}

-- the map has for each key the least index of a look that has it, and nothing where none has it
abbrev pub IsIndex : (ℕ → ℕ → Type 0) → BTreeMap ℕ ℕ → Type 0
IsIndex HasKey m = (key : ℕ) → IsLeastOrNone (HasKey key) (tree.get nat_cmp m key)

-- among the first n looks, the one of this index takes the byte at this address as its argument
abbrev pub TakesByte : List Seen → ℕ → ℕ → ℕ → Type 0
TakesByte ls n key at =
    (at < n) × ((l : Seen) × (slice_get ls at ≡ Some l) × Has (argument_seen l) key)

-- the number of an offence's address and reason
abbrev pub kind_number : Offence → ℕ
kind_number o = o.place.address * 32 + number_of o.reason

-- one of the first n offences is at the place of the look of this index, and has such an address
-- and reason
pub record IsOfKind (ls : List Seen) (os : List Offence) (n key at : ℕ) : Type 0 where
  pub number : ℕ
  pub offence : Offence
  pub look : Seen
  pub below : number < n
  pub listed : slice_get os number ≡ Some offence
  pub kind : key ≡ kind_number offence
  pub seen : slice_get ls at ≡ Some look
  pub place : look.place ≡ offence.place

-- for each byte of an argument the first place that takes it, and for each address and reason the
-- first place that so offends
pub record FindsFirst (ls : List Seen) (os : List Offence) (f : Finder) : Type 0 where
  pub takers : IsIndex (TakesByte ls (length ls)) f.takers
  pub offenders : IsIndex (IsOfKind ls os (length os)) f.offenders

-- ---- one more

-- n is the lesser of what was found so far, if anything was, and a
abbrev pub IsLesserOf : Option ℕ → ℕ → ℕ → Type 0
IsLesserOf None a n = n ≡ a
IsLesserOf (Some b) a n = n ≡ min b a

-- of a key the lesser of what was known and this index is kept, and of others what was known
pub record KeepsLeast (key at : ℕ) (old new : BTreeMap ℕ ℕ) : Type 0 where
  pub least : ℕ
  pub lesser : IsLesserOf (tree.get nat_cmp old key) at least
  pub noted : tree.get nat_cmp new key ≡ Some least
  pub others : (k : ℕ) → (k ≡ key → ⊥) → tree.get nat_cmp new k ≡ tree.get nat_cmp old k

-- a key is one of the first n
abbrev pub IsAmongFirst : List ℕ → ℕ → ℕ → Type 0
IsAmongFirst keys n key = (i : ℕ) × (i < n) × (slice_get keys i ≡ Some key)

-- among the first looks, or the one of this index by one of its first n keys
abbrev pub TakesSoFar : List Seen → ℕ → List ℕ → ℕ → ℕ → ℕ → Type 0
TakesSoFar ls at keys n key k =
    TakesByte ls at key k ⊎ ((k ≡ at) × IsAmongFirst keys n key)
