-- The least of several bytes, and where they lie together.
use Rattle.std.specs.Prelude.{◌≡◌, ◌<◌, ◌≤◌, ℕ, List, min, Option, None, Some, true}
use Rattle.ccw_core.specs.declared.areas.Area.{Area}
use Rattle.ccw_core.specs.Areas.{lies_in}

-- the lesser of two numbers, if there are two
abbrev pub lesser_of : Option ℕ → Option ℕ → Option ℕ
lesser_of None y = y
lesser_of (Some m) None = Some m
lesser_of (Some m) (Some n) = Some (min m n)

-- the number is one of a range, from its first up to its second, which isn't one
abbrev pub IsWithin : ℕ × ℕ → ℕ → Type 0
IsWithin range b = (range.0 ≤ b) × (b < range.1)

-- all bytes of the areas lie in the range
abbrev pub LieWithin : List Area → ℕ × ℕ → Type 0
LieWithin areas range = (b : ℕ) → lies_in areas b ≡ true → IsWithin range b

-- no byte of the areas lies in the range
abbrev pub LieApart : List Area → ℕ × ℕ → Type 0
LieApart areas range = (b : ℕ) → lies_in areas b ≡ true → IsWithin range b → ⊥
