-- What a program needs as text: the lines of a deck that grant it, and one for each area that is
-- kept.
use Rattle.std.specs.Prelude.{ℕ, ◌==◌, List, [], ◌∷◌, ◌++◌, codes, map, if◌then◌else◌}
use Rattle.std.specs.List.{flat_map}
use Rattle.ccw_core.specs.declared.areas.Area.{Area}
use Rattle.chan_needs.specs.Listed.{Listed}
use Rattle.chan_deck.specs.DeckValue.{extent_of}
use Rattle.chan_deck.specs.Item.{Item, area_digits, fetch, line, mask, store, text}
use Rattle.ccw_core.specs.declared.ccw.TheConstants.{STORAGE_LIMIT}

-- all of the largest storage, as two areas: six digits hold no length of 1000000
abbrev pub halves : List Area
halves = (record { start = 0; len = 0xFFFFFF }) ∷ (record { start = 0xFFFFFF; len = 1 }) ∷ []

-- an area of storage in six digits
abbrev pub six_digit_parts : Area → List Area
six_digit_parts a = if a.len == STORAGE_LIMIT then halves else a ∷ []

-- areas of storage in six digits: the same bytes
abbrev pub in_six_digits : List Area → List Area
in_six_digits areas = flat_map six_digit_parts areas

-- what the lines of a deck say that grant what is needed
abbrev pub granting : Listed → List Item
granting n =
    mask n.mask ∷ map extent_of n.extents ++ map fetch (in_six_digits n.fetch)
    ++ map store (in_six_digits n.store)

-- the line of an area that is kept, without its line feed
abbrev pub keep_line : Area → List ℕ
keep_line a = codes "keep " ++ area_digits a

-- the whole text
abbrev pub needs_text : Listed → List ℕ
needs_text n = text (map line (granting n) ++ map keep_line (in_six_digits n.keep))
