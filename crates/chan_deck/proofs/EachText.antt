-- Each text spells a deck or is refused: line after line is taken, until one is refused or none is left.
use Rattle.chan_deck.proofs.Names.{[], after_line, ap, arith, Cause, Err, HasRead, inl, inr, length, lines, List, Ok, Opening, refl, Result, split, State, suc, Whole, zero, ℕ, ◌+◌, ◌∷◌, ◌≡◌}
use Rattle.chan_deck.specs.Refused.{IsDeckOrRefused}
use Rattle.chan_deck.proofs.ItemLemmas.{line_read}
use Rattle.chan_deck.proofs.RefusalLemmas.{starts, takes, refuses_line, refuses_end, refuses_more, stands_first, spells_deck}
use Rattle.chan_deck.specs.declared.cause.Cause.TheVariants as causes

by_result : {P : Type 0} (r : Result State Cause) → ((s : State) → r ≡ Ok s → P) → ((c : Cause) → r ≡ Err c → P) → P
by_result (Ok s) goes refused = goes s refl
by_result (Err c) goes refused = refused c refl

end_judged : (t : List ℕ) (s : State) (n : ℕ) (rest : List ℕ) → HasRead t s n rest → split rest ≡ ([], rest) → IsDeckOrRefused t
end_judged t (Whole d) n [] st e = inl (d, spells_deck t d n st)
end_judged t (Whole d) n (b ∷ rest) st e = inr (n, causes.After, refuses_more t d n b rest st)
end_judged t s n rest st e = inr (n, causes.Ended, refuses_end t s n rest st e refl)

-- what is left of a text, k lines and perhaps a part, is read to its end or refused
judged_from : (k : ℕ) (t : List ℕ) (s : State) (n : ℕ) (rest : List ℕ) → HasRead t s n rest → length (lines rest) ≡ k → IsDeckOrRefused t
judged_from zero t s n rest st len =
    elim (stands_first rest) [
      | inl x ↦ absurd (omega (arith, len, ap (λ (p : List (List ℕ) × List ℕ). length p.0) x.2))
      | inr e ↦ end_judged t s n rest st e
    ]
judged_from (suc k) t s n rest st len =
    elim (stands_first rest) [
      | inr e ↦ end_judged t s n rest st e
      | inl x ↦
          let read = line_read x.0 in
          let left : length (split rest).0 ≡ suc (length (split x.1).0) = ap (λ (p : List (List ℕ) × List ℕ). length p.0) x.2 in
          by_result (after_line s read.0)
          (λ next goes. judged_from k t next (n + 1) x.1 (takes t s next n rest x.0 x.1 read.0 st x.2 read.1 goes) (omega (arith, len, left)))
          (λ c bad. inr (n, c, refuses_line t s n rest x.0 x.1 read.0 c st x.2 read.1 bad))
    ]

-- each text spells a deck or is refused
pub each_text : (t : List ℕ) → IsDeckOrRefused t
each_text t = judged_from (length (lines t)) t Opening 1 t (starts t) refl
