-- Which cylinders lie in some extent.
use Rattle.std.proofs.Common.{take, ◌≡◌, ℕ, ◌+◌, ◌≤◌, ◌<◌, false, ◌&&◌, ◌||◌, nat_eq, nat_le, List, [], ◌∷◌, length, get_or, refl, ap, arith}
use Rattle.std.proofs.lemmas.List.Folds.{list_any_more}
use Rattle.std.specs.Bool.{Decides}
use Rattle.std.specs.Cmp.Lexicographic.{pointwise_decides}
use Rattle.std.specs.List.{AllByRecursion}
use Rattle.std.proofs.lemmas.Bool.Decides.{nat_tests, Decides-and, Decides-eqb}
use Rattle.std.proofs.lemmas.List.Elements.{All-from_recursion}
use Rattle.ckd_core.specs.Extents.{has_cylinder, IsExtent, same_extents}
use Rattle.ckd_core.specs.declared.device.TheConstants.{CYLINDERS, LAST_CYLINDER}

-- a pair of right ones is right
pub extent_at : (extents : List (ℕ × ℕ)) (i : ℕ) → AllByRecursion IsExtent extents → i < length extents → IsExtent (get_or extents i (0, 0))
extent_at extents i all lt = All-from_recursion IsExtent extents all i (0, 0) lt

past_one : (first last cylinder : ℕ) → last ≤ LAST_CYLINDER → CYLINDERS ≤ cylinder → (nat_le first cylinder && nat_le cylinder last) ≡ false
past_one first last cylinder le past = grind (arith, nat_tests)

-- no extent reaches past the device
pub has_cylinder-past : (extents : List (ℕ × ℕ)) (cylinder : ℕ) → AllByRecursion IsExtent extents → CYLINDERS ≤ cylinder → has_cylinder extents cylinder ≡ false
unfolding has_cylinder
has_cylinder-past [] cylinder all past = refl
has_cylinder-past (e ∷ es) cylinder all past =
    let none : (nat_le e.0 cylinder && nat_le cylinder e.1) ≡ false = past_one e.0 e.1 cylinder all.0.1 past in
    rw none (has_cylinder-past es cylinder all.1 past)

-- one extent more
pub has_cylinder-more : (extents : List (ℕ × ℕ)) (i cylinder : ℕ) → i < length extents
    → has_cylinder (take (i + 1) extents) cylinder
    ≡ (has_cylinder (take i extents) cylinder || (nat_le (get_or extents i (0, 0)).0 cylinder && nat_le cylinder (get_or extents i (0, 0)).1))
unfolding has_cylinder
has_cylinder-more extents i cylinder below = list_any_more (λ e. nat_le e.0 cylinder && nat_le cylinder e.1) extents i (0, 0) below

same_pair : (x y : ℕ × ℕ) → Decides (nat_eq x.0 y.0 && nat_eq x.1 y.1) (x ≡ y)
same_pair x y =
    let both : Decides (nat_eq x.0 y.0 && nat_eq x.1 y.1) ((x.0 ≡ y.0) × (x.1 ≡ y.1))
    = Decides-and (nat_eq x.0 y.0) (nat_eq x.1 y.1) (Decides-eqb x.0 y.0) (Decides-eqb x.1 y.1) in
    (λ h. λ i. ((both.0 h).0 i, (both.0 h).1 i), λ e. both.1 (ap (λ (p : ℕ × ℕ). p.0) e, ap (λ (p : ℕ × ℕ). p.1) e))

-- extents are equal exactly where their pairs are
pub same_extents-decides : (xs ys : List (ℕ × ℕ)) → Decides (same_extents xs ys) (xs ≡ ys)
same_extents-decides xs ys = pointwise_decides same_pair xs ys
