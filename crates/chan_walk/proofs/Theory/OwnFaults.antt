-- Parts of the table of own faults, and what passed the channel's checks.
use Rattle.chan_walk.proofs.Names.{[], Bool, ccw, false, Fields, first_reason, has_data_in, is_transfer, leb-true, length, List, None, option_or, Place, program_check, Reason, refl, rules, subst, sym, ℕ, ◌++◌, ◌+◌, ◌∷◌, ◌≡◌, ◌≤◌}
use Rattle.chan_walk.proofs.Theory.Checks.{passed}

pub first_reason-append : (xs ys : List (Bool × Reason)) → first_reason (xs ++ ys) ≡ option_or (first_reason xs) (first_reason ys)
first_reason-append [] ys = refl
first_reason-append (x ∷ xs) ys = search (rules, first_reason-append xs ys)

-- the data range of a CCW that passed the channel's checks lies in storage
pub data_in_storage : (s : List ℕ) (p : Place) (c : Fields) → program_check s p ≡ None → c ≡ ccw s p.address → is_transfer c ≡ false
    → c.address + c.count ≤ length s
unfolding has_data_in
data_in_storage s p c h e t =
    let f = passed s p h (subst (λ (w : Fields). is_transfer w ≡ false) e t) in
    subst (λ (w : Fields). w.address + w.count ≤ length s) (sym e) (leb-true _ _ f.data_in)
