-- The notes on an image of storage that is a deck, or that has no program.
use Rattle.std.specs.Prelude.{ℕ, Bool, ◌||◌, List, [], false, if◌then◌else◌, nat_eq, true}
use Rattle.std.specs.List.{starts_with}
use Rattle.chan_deck.specs.declared.image_note.TheConstants as texts

-- an image begins as a deck does
abbrev pub is_deck : List ℕ → Bool
is_deck image = starts_with nat_eq image texts.DECK_FRONT.now

-- the note on such an image
abbrev pub deck_note : List ℕ → List ℕ
deck_note image = if is_deck image then texts.IS_DECK.now else []

-- what is asked for of an image without a program: what wasn't given
abbrev pub asked_for : Bool → Bool → List ℕ
asked_for false false = texts.GIVE_BOTH.now
asked_for false true = texts.GIVE_AT.now
asked_for true false = texts.GIVE_STORAGE.now
asked_for true true = texts.GIVE_NOTHING.now

-- the note on an image that was searched for programs, and that has some or none, by whether its
-- address was given and the size of storage
abbrev pub find_note : List ℕ → Bool → Bool → Bool → List ℕ
find_note image has_programs is_placed is_sized =
    if is_deck image || has_programs then deck_note image else asked_for is_placed is_sized
