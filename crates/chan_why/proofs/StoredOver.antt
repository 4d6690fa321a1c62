-- The last place of a path that stores over what stands at its end, as the path is read backwards.
use Rattle.chan_why.proofs.Names.{[], inl, inr, IsLastStore, Job, List, None, Option, Place, Some, StoresAt, subst, ℕ, ◌++◌, ◌∷◌, ◌≡◌, ◌⊎◌}

-- what one place more adds: nothing where one was found already
abbrev pub IsLater : Job → ℕ → Place → Option Place → Option Place → Type 0
IsLater j a q (Some p) o = o ≡ Some p
IsLater j a q None o = (StoresAt j a q × (o ≡ Some q)) ⊎ ((StoresAt j a q → ⊥) × (o ≡ None))

pub last_more : (j : Job) (a : ℕ) (qs : List Place) (q : Place) (o new : Option Place)
    → IsLater j a q o new → IsLastStore j a qs o → IsLastStore j a (qs ++ q ∷ []) new
last_more j a [] q o new l e = subst (λ z. IsLater j a q z new) e l
last_more j a (x ∷ qs) q o new l (inl (s, e)) = inl (s, subst (λ z. IsLater j a q z new) e l)
last_more j a (x ∷ qs) q o new l (inr (n, r)) = inr (n, last_more j a qs q o new l r)
