-- Sets of places as marks: for each address a number whose bit w is on where a place with that
-- address is entered in the way w.
use Rattle.std.specs.Prelude.{◌≡◌, ℕ, zero, suc, ◌/◌, ◌%◌, ◌==◌, Bool, true, false, List, [], ◌∷◌}
use Rattle.std.specs.Prelude.{◌++◌, Option, None, Some, if◌then◌else◌}
use Rattle.std.specs.Int.{bit_at}
use Rattle.std.specs.Ordering.{nat_cmp}
use Rattle.std.specs.BTreeMap.{BTreeMap}
use Rattle.std.specs.BTreeMap as tree
use Rattle.chan_walk.specs.declared.place.Entry.{Entry}
use Rattle.chan_walk.specs.declared.place.Entry.TheVariants.{Fresh, ChainIn, ChainOut, ChainSearch}
use Rattle.chan_walk.specs.declared.place.Place.{Place}
use Rattle.chan_walk.specs.Argument.{Has}
use Rattle.chan_walk.specs.Places.{way_of}

-- a place of the list has the address a and is entered in the way w
pub record HasWay (ps : List Place) (a w : ℕ) : Type 0 where
  pub place : Place
  pub listed : Has ps place
  pub there : place.address ≡ a
  pub entered : way_of place ≡ w

-- the entry of a number
abbrev pub entry_numbered : ℕ → Entry
entry_numbered n =
    if n == 0 then Fresh else if n == 1 then ChainIn else if n == 2 then ChainOut else ChainSearch

-- the place at the address a that is entered in the way w
abbrev pub place_at : ℕ → ℕ → Place
place_at a w = record { address = a; entered = entry_numbered (w / 2); after_transfer = w % 2 == 1 }

-- the marks, none where there is no entry
abbrev pub marks_or_none : Option ℕ → ℕ
marks_or_none None = 0
marks_or_none (Some m) = m

-- the marks of an address
abbrev pub marks_of : BTreeMap ℕ ℕ → ℕ → ℕ
marks_of m a = marks_or_none (tree.get nat_cmp m a)

-- the place is marked
abbrev pub HasMark : BTreeMap ℕ ℕ → Place → Type 0
HasMark m p = bit_at (marks_of m p.address) (way_of p) ≡ 1

-- the place at the head of a list, if it is wanted there
abbrev pub put : Bool → Place → List Place → List Place
put true p ps = p ∷ ps
put false p ps = ps

-- the places at the address a that n bits of the marks m tell of, from the bit w on
unfoldable pub ways : ℕ → ℕ → ℕ → ℕ → List Place
ways a m w zero = []
ways a m w (suc n) = put (bit_at m w == 1) (place_at a w) (ways a m (suc w) n)

-- the places at one address
abbrev pub places_at : ℕ → ℕ → List Place
places_at a m = ways a m 0 8

-- the places of all addresses, in order where the addresses are
abbrev pub places_of : List (ℕ × ℕ) → List Place
places_of [] = []
places_of (e ∷ es) = places_at e.0 e.1 ++ places_of es

-- the list has the marked places, in order
pub record ListsMarks (m : BTreeMap ℕ ℕ) (ps : List Place) : Type 0 where
  pub ordered : tree.IsOrdered nat_cmp m
  pub listed : ps ≡ places_of m.entries
