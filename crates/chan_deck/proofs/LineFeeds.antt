-- The first line feed of a text ends its first line.
use Rattle.chan_deck.proofs.Names.{[], arith, Bool, drop, inl, inr, length, List, nat_tests, None, position, Some, refl, split, subst, suc, take, ℕ, ◌+◌, ◌<◌, ◌==◌, ◌∷◌, ◌≡◌, ◌≤◌}
use Rattle.std.specs.List.{position_or_len}
use Rattle.std.proofs.lemmas.Bool.{cases_Bool}

abbrev feed : ℕ → Bool
feed b = b == 10

-- the first line feed ends the first line
first_ends : (t : List ℕ) → position_or_len feed t < length t
    → split t ≡ (take (position_or_len feed t) t ∷ (split (drop (position_or_len feed t + 1) t)).0, (split (drop (position_or_len feed t + 1) t)).1)
unfolding split
first_ends [] lt = absurd (omega arith)
first_ends (b ∷ t) lt = elim (cases_Bool (b == 10)) [
  | inl here ↦ rw here refl
  | inr other ↦
      let within = rw other at lt in
      let n = position_or_len feed t in
      let next : 1 + n ≡ suc n = omega arith in
      let behind : suc n + 1 ≡ suc (n + 1) = omega arith in
      rw (other, next, behind, first_ends t (omega (arith, within))) refl
]

none_ends : (t : List ℕ) → length t ≤ position_or_len feed t → split t ≡ ([], t)
unfolding split
none_ends [] le = refl
none_ends (b ∷ t) le = elim (cases_Bool (b == 10)) [
  | inl here ↦
      let past = rw here at le in
      absurd (omega (arith, past))
  | inr other ↦
      let past = rw other at le in
      rw (other, none_ends t (omega (arith, past))) refl
]

pub some_line : (t : List ℕ) (i : ℕ) → Some i ≡ position (λ b. b == 10) t → split t ≡ (take i t ∷ (split (drop (i + 1) t)).0, (split (drop (i + 1) t)).1)
some_line t i e =
    let first : position_or_len feed t ≡ i = grind (arith, nat_tests, e) in
    let within : position_or_len feed t < length t = grind (arith, nat_tests, e) in
    subst (λ j. split t ≡ (take j t ∷ (split (drop (j + 1) t)).0, (split (drop (j + 1) t)).1)) first (first_ends t within)

pub no_line : (t : List ℕ) → position (λ b. b == 10) t ≡ None → split t ≡ ([], t)
no_line t e = none_ends t (grind (arith, nat_tests, e))
