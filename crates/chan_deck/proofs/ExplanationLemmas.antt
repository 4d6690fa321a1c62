-- The rows of a path, one after another.
use Rattle.chan_deck.proofs.Names.{[], ap, append-nil, append_assoc, arith, drop, drop-cons, drop_all, get_or, Job, length, length-drop, List, nat_tests, Place, refl, subst, suc, sym, ℕ, ◌++◌, ◌+◌, ◌<◌, ◌∙◌, ◌≡◌, ◌≤◌}
use Rattle.std.proofs.Common.{nat_eq}
use Rattle.chan_deck.specs.Explanation.{AddsText, ArePathRows, IsPathRow}

rows_more : (j : Job) (ps : List Place) (at : ℕ) (d : Place) (first rest : List ℕ) → at < length ps
    → IsPathRow j (get_or ps at d) (nat_eq (at + 1) (length ps)) first
    → ArePathRows j (drop (at + 1) ps) rest → ArePathRows j (drop at ps) (first ++ rest)
rows_more j ps at d first rest lt is are =
    let next : at + 1 ≡ suc at = omega arith in
    let ends : nat_eq (at + 1) (length ps) ≡ nat_eq (length (drop (suc at) ps)) 0 = grind (arith, nat_tests, length-drop (suc at) ps) in
    let here = subst (λ b. IsPathRow j (get_or ps at d) b first) ends is in
    let left = subst (λ n. ArePathRows j (drop n ps) rest) next are in
    subst (λ qs. ArePathRows j qs (first ++ rest)) (sym (drop-cons ps at d lt)) (first, rest, here, left, refl)

-- what is written, with any rows of the places that are left, is rows of all
abbrev pub HasRows : Job → List Place → ℕ → List ℕ → List ℕ → Type 0
HasRows j ps at old held = (rest : List ℕ) → ArePathRows j (drop at ps) rest → AddsText (ArePathRows j ps) old (held ++ rest)

pub path_more : (j : Job) (ps : List Place) (at : ℕ) (d : Place) (old held new : List ℕ) → at < length ps
    → AddsText (IsPathRow j (get_or ps at d) (nat_eq (at + 1) (length ps))) held new
    → HasRows j ps at old held → HasRows j ps (at + 1) old new
path_more j ps at d old held new lt (first, is, e) before rest are =
    subst (AddsText (ArePathRows j ps) old) (sym (append_assoc held first rest) ∙ ap (λ t. t ++ rest) (sym e))
    (before (first ++ rest) (rows_more j ps at d first rest lt is are))

pub path_whole : (j : Job) (ps : List Place) (at : ℕ) (old held : List ℕ) → length ps ≤ at → HasRows j ps at old held → AddsText (ArePathRows j ps) old held
path_whole j ps at old held past before =
    let none = subst (λ qs. ArePathRows j qs []) (sym (drop_all at ps past)) refl in
    subst (AddsText (ArePathRows j ps) old) (append-nil held) (before [] none)
