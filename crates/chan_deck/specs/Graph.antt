-- What is proved of a picture's text: its title has the name of the deck and the verdict, and its
-- last line closes it. Tests hold the rest.
use Rattle.std.specs.Prelude.{◌≡◌, ◌++◌, ◌==◌, ◌||◌, ◌∷◌, [], ℕ, List, codes, nat_lt}
use Rattle.std.specs.Prelude.{Option, None, Some, if◌then◌else◌}
use Rattle.std.specs.List.{flat_map}
use Rattle.chan_walk.specs.declared.verdict.Verdict.{Verdict}
use Rattle.chan_deck.specs.VerdictLine.{verdict_words}

-- a byte of a name in a label: a backslash comes before a quote and before a backslash, and a byte
-- that isn't ASCII is drawn as a question mark
abbrev pub escaped_byte : ℕ → List ℕ
escaped_byte b =
    if b == 34 || b == 92 then 92 ∷ b ∷ [] else if nat_lt b 128 then b ∷ [] else 63 ∷ []

-- the name in a label
abbrev pub escaped : List ℕ → List ℕ
escaped = flat_map escaped_byte

-- the front of the title: the name, if there is one, a colon and a space
abbrev pub titled : Option (List ℕ) → List ℕ
titled None = []
titled (Some name) = escaped name ++ codes ": "

-- the picture of a program with this verdict, whose deck has this name
pub record IsPictureOf (name : Option (List ℕ)) (v : Verdict) (text : List ℕ) : Type 0 where
  pub body : List ℕ
  pub is :
      text ≡ codes "digraph program {\n  graph [label=\"" ++ titled name ++ verdict_words v
      ++ codes "\\n" ++ body ++ codes "}\n"
