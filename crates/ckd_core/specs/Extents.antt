-- Extents of whole cylinders, as pairs of first and last.
use Rattle.std.specs.Prelude.{ℕ, ◌≤◌, ◌<◌, Bool, ◌&&◌, nat_le, nat_eq, List, [], ◌∷◌, length}
use Rattle.std.specs.Cmp.{IsEquivalence, on_equiv, and_equiv, nat_eq_equiv}
use Rattle.std.specs.Cmp.Lexicographic.{pointwise, lists_equiv}
use Rattle.std.specs.Ordering.{on, eq_of_both}
use Rattle.std.specs.List.{list_any, AllByRecursion}
use Rattle.ckd_core.specs.declared.device.TheConstants.{LAST_CYLINDER}

-- the cylinder lies in some extent
unfoldable pub has_cylinder : List (ℕ × ℕ) → ℕ → Bool
has_cylinder extents cylinder = list_any (λ e. nat_le e.0 cylinder && nat_le cylinder e.1) extents

-- first and last in order, the last on the device
abbrev pub IsExtent : ℕ × ℕ → Type 0
IsExtent e = (e.0 ≤ e.1) × (e.1 ≤ LAST_CYLINDER)

-- one extent of all cylinders
abbrev pub all_cylinders : List (ℕ × ℕ)
all_cylinders = (0, LAST_CYLINDER) ∷ []

-- one extent or more, each of them in order and on the device
abbrev pub AreExtents : List (ℕ × ℕ) → Type 0
AreExtents extents = (0 < length extents) × AllByRecursion IsExtent extents

-- the same pairs in the same order
abbrev pub same_extents : List (ℕ × ℕ) → List (ℕ × ℕ) → Bool
same_extents = pointwise (eq_of_both (on (λ e. e.0) nat_eq) (on (λ e. e.1) nat_eq))

pub same_extents-IsEquivalence : IsEquivalence same_extents
same_extents-IsEquivalence =
    let first : ℕ × ℕ → ℕ = λ e. e.0 in
    let last : ℕ × ℕ → ℕ = λ e. e.1 in
    lists_equiv (and_equiv (on_equiv first nat_eq_equiv) (on_equiv last nat_eq_equiv))
