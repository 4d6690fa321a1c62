-- The second pass over starts: downwards over what the first pass left.
use Rattle.std.proofs.Common.{◌≡◌, ℕ, ◌+◌, ◌-◌, ◌<◌, List, [], ◌∷◌, ◌++◌, ◌∙◌, ap, append_assoc, arith, drop, inl, inr, length, refl, reverse, subst, suc, sym, take}
use Rattle.std.specs.List.{remove}
use Rattle.std.proofs.lemmas.List.{length-append, reverse-append}
use Rattle.std.proofs.lemmas.List.Edits.{remove-append_right}
use Rattle.std.proofs.lemmas.List.Elements.{All-append, All-drop, All-take}
use Rattle.std.proofs.lemmas.List.Kept.{AllPairs-from_increasing}
use Rattle.std.proofs.lemmas.List.Quantifiers.{all_pairs_remove}
use Rattle.ccw_core.specs.Storage.{Stands}
use Rattle.chan_find.specs.Programs.{AreStarts, IsOffered}

-- one start fewer
starts_without : (s front back : List ℕ) (a : ℕ) → AreStarts s (front ++ a ∷ back) → AreStarts s (front ++ back)
starts_without s front back a are = subst (AreStarts s) is (record {
  ordered = λ k l. all_pairs_remove (λ x y. x < y) xs n inside (AllPairs-from_increasing xs are.ordered) k (k + 1) 0 (omega arith) l;
  stand = All-append (Stands s) (take n xs) (drop (suc n) xs) (All-take (Stands s) n xs are.stand) (All-drop (Stands s) (suc n) xs are.stand);
})
  where
    xs : List ℕ
    xs = front ++ a ∷ back

    n : ℕ
    n = length front

    inside : n < length xs
    inside = omega (arith, length-append front (a ∷ back))

    none : n - n ≡ 0
    none = omega arith

    is : remove xs n ≡ front ++ back
    is = remove-append_right front (a ∷ back) n n refl (omega arith) ∙ ap (λ k. front ++ remove (a ∷ back) k) none

-- the starts that are left, and after them those taken so far, of which the last is the lowest
abbrev pub AreLeftAndTaken : List ℕ → List ℕ → List ℕ → Type 0
AreLeftAndTaken s rest taken = AreStarts s (rest ++ reverse taken)

-- the highest start that is left is offered
pub down_turn : (s rest front old new : List ℕ) (a : ℕ) → rest ≡ front ++ a ∷ [] → IsOffered s a old new
    → AreLeftAndTaken s rest old → AreLeftAndTaken s front new
down_turn s rest front old new a popped offered are = go offered
  where
    parted : rest ++ reverse old ≡ front ++ a ∷ reverse old
    parted = ap (λ z. z ++ reverse old) popped ∙ append_assoc front (a ∷ []) (reverse old)

    go : IsOffered s a old new → AreLeftAndTaken s front new
    go (inl same) = subst (AreLeftAndTaken s front) (sym same) (starts_without s front (reverse old) a (subst (AreStarts s) parted are))
    go (inr (there, more)) =
        subst (AreStarts s) (parted ∙ ap (λ z. front ++ z) (sym (reverse-append old (a ∷ [])) ∙ ap reverse (sym more))) are
