-- What a line does to where reading stands, by the item that it is read as.
use Rattle.chan_deck.proofs.Names.{[], after_line, ap, Area, arith, cond, Err, Filling, Heading, is_size, length, List, Listing, Ok, refl, said_by, State, step, storage, true, ℕ, ◌<◌, ◌∷◌, ◌≡◌}
use Rattle.chan_deck.specs.Reading.{IsLessLeft}
use Rattle.chan_deck.specs.declared.item.Item.{Item}
use Rattle.chan_deck.specs.declared.item.Item.TheVariants as found
use Rattle.chan_deck.specs.declared.cause.Cause.TheVariants as causes

-- ---- forms that may not stand

pub no_put : (h : Heading) (es : List (ℕ × ℕ)) (fs ss : List Area) (n : ℕ) (bytes : List ℕ) (i : Item)
    → ((a w : ℕ) → i ≡ found.Put a w → ⊥) → (i ≡ found.End → ⊥)
    → after_line (Filling h es fs ss n bytes) (said_by i) ≡ Err causes.Form
no_put h es fs ss n bytes (found.Put a w) puts ends = absurd (puts a w refl)
no_put h es fs ss n bytes found.End puts ends = absurd (ends refl)
no_put h es fs ss n bytes i puts ends = refl

pub good_size : (h : Heading) (fs ss : List Area) (es : List (ℕ × ℕ)) (n : ℕ) → 0 < length es → is_size n ≡ true
    → step (Listing h es fs ss) (storage n) ≡ Ok (Filling h es fs ss n [])
good_size h fs ss [] n some e = absurd (omega arith)
good_size h fs ss (x ∷ es) n some e = ap (λ b. cond b (Ok (Filling h (x ∷ es) fs ss n [])) (Err causes.Size)) e

-- a line that was taken was read
pub was_read : (s next : State) (m n : ℕ) (i : Item) → after_line s (said_by i) ≡ Ok next → IsLessLeft m i n → n < m
was_read s next m n found.Missing e h = absurd cc
was_read s next m n i e h = h

-- fewer bytes are left
pub is_less : (m n : ℕ) (i : Item) → n < m → IsLessLeft m i n
is_less m n found.Missing h = tt
is_less m n i h = h
