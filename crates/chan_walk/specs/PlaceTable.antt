-- Where places are found by their addresses: the address of each tells in which list it is. For
-- each list the last place in it is known, and for each place the one before it in its list.
use Rattle.std.specs.Prelude.{◌≡◌, ℕ, ◌+◌, ◌*◌, ◌/◌, ◌%◌, ◌^◌, ◌<◌, ◌≤◌, List, length, take}
use Rattle.std.specs.Prelude.{slice_get, slice_index, Option, None, Some, ◌⊎◌}
use Rattle.chan_walk.specs.declared.place.Place.{Place}
use Rattle.chan_walk.specs.declared.place_table.PlaceTable.{PlaceTable}
use Rattle.chan_walk.specs.declared.place_table.TheConstants.{GOLDEN}
use Rattle.chan_walk.specs.Argument.{Has}

-- the index of a place in a list, if the list has it
abbrev pub IsIndexOf : List Place → Place → Option ℕ → Type 0
IsIndexOf ps p None = Has ps p → ⊥
IsIndexOf ps p (Some k) = slice_get ps k ≡ Some p

-- of so many lists, the one that has the places at the address a
abbrev pub list_of : ℕ → ℕ → ℕ
list_of lists a = a / 8 * GOLDEN % 2 ^ 32 * lists / 2 ^ 32

-- n is one more than the index of the last of the places that is in the list, or 0 if none is
pub record IsLastIn (lists : ℕ) (ps : List Place) (list n : ℕ) : Type 0 where
  pub last : (k : ℕ) → n ≡ k + 1
      → (p : Place) × (slice_get ps k ≡ Some p) × (list_of lists p.address ≡ list)
  pub none : (i : ℕ) (p : Place) → n ≤ i → slice_get ps i ≡ Some p
      → list_of lists p.address ≡ list → ⊥

-- the table has the places ps in its lists
pub record ListsPlaces (t : PlaceTable) (ps : List Place) : Type 0 where
  pub some : 0 < length t.last.items
  pub few : length t.last.items < 2 ^ 32
  pub each : length t.before.items ≡ length ps
  pub last : (list : ℕ) → list < length t.last.items
      → IsLastIn (length t.last.items) ps list (slice_index t.last.items list)
  pub before : (i : ℕ) (p : Place) → slice_get ps i ≡ Some p → IsLastIn (length t.last.items)
      (take i ps) (list_of (length t.last.items) p.address) (slice_index t.before.items i)

-- the table finds the places ps: by its lists, or without any, when each place is compared
abbrev pub FindsPlaces : PlaceTable → List Place → Type 0
FindsPlaces t ps = (length t.last.items ≡ 0) ⊎ ListsPlaces t ps
