-- The bytes that are kept, compared area by area.
use Rattle.chan_needs.proofs.Names.{[], Area, drop, HoldsAreas, inl, inr, IsFirstChanged, List, ℕ, ◌∷◌}

-- what the areas from i on say of the bytes that are left is what all say of all
pub record IsLeft (s : List ℕ) (areas : List Area) (kept : List ℕ) (i : ℕ) (rest : List ℕ) : Type 0 where
  pub holds : HoldsAreas s (drop i areas) rest → HoldsAreas s areas kept
  pub changed : (b : ℕ) → IsFirstChanged s (drop i areas) rest b → IsFirstChanged s areas kept b

-- where all is as it was nothing has changed
pub never_changed : (s : List ℕ) (areas : List Area) (kept : List ℕ) (b : ℕ) → IsFirstChanged s areas kept b → HoldsAreas s areas kept → ⊥
never_changed s [] kept b c h = c
never_changed s (a ∷ areas) kept b (inl c) h = c.changed (h.0 c.number c.within)
never_changed s (a ∷ areas) kept b (inr c) h = never_changed s areas (drop a.len kept) b c.1 h.1
