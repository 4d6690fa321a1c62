-- Binary search in merged areas.
use Rattle.std.proofs.Common.{◌≡◌, ℕ, zero, suc, ◌+◌, ◌<◌, ◌≤◌, true, false, leb, max, List, [], ◌∷◌, length, get_or, Option, Some, None, sym, subst, ◌⊎◌, inl, inr, ◌^◌, ◌↔◌, arith, Bor, MatchOption, option_copied, rules}
use Rattle.std.specs.List.{All, HoldsAt}
use Rattle.std.specs.List.Sorted.{IsNonDecreasingBy, IsPartitionPoint}
use Rattle.std.proofs.lemmas.Bool.{cases_lt, leb-false, both_ways, false_from_ne_true}
use Rattle.ccw_core.specs.declared.areas.Area.{Area}
use Rattle.ccw_core.specs.Areas.{end_of, lies_in}
use Rattle.ccw_core.proofs.Covering.{lies_in-at, lies_in-nil}
use Rattle.chan_areas.specs.Merged.{IsByteOf, BeginAbove, EndsBelow, IsMerged, IsFirstAbove, IsNextArea, Meets}
use Rattle.chan_areas.proofs.Merging.{lies_in-cases}

-- ---- merged areas by their places in the list

pub merged_len : (xs : List Area) (k : ℕ) (d : Area) → IsMerged xs → k < length xs → 0 < (get_or xs k d).len
merged_len [] k d m l = absurd (omega arith)
merged_len (x ∷ xs) zero d m l = m.0
merged_len (x ∷ xs) (suc k) d m l = merged_len xs k d m.2 (omega arith)

above_at : (n : ℕ) (xs : List Area) (k : ℕ) (d : Area) → BeginAbove n xs → k < length xs → n < (get_or xs k d).start
above_at n [] k d h l = absurd (omega arith)
above_at n (y ∷ xs) zero d h l = h.0
above_at n (y ∷ xs) (suc k) d h l = above_at n xs k d h.1 (omega arith)

pub merged_order : (xs : List Area) (i k : ℕ) (d : Area) → IsMerged xs → i < k → k < length xs → end_of (get_or xs i d) < (get_or xs k d).start
merged_order [] i k d m l h = absurd (omega arith)
merged_order (x ∷ xs) i zero d m l h = absurd (omega arith)
merged_order (x ∷ xs) zero (suc k) d m l h = above_at (end_of x) xs k d m.1 (omega arith)
merged_order (x ∷ xs) (suc i) (suc k) d m l h = merged_order xs i k d m.2 (omega arith) (omega arith)

-- a byte lies in one of the areas
pub area_at : (xs : List Area) (d : Area) (b : ℕ) → lies_in xs b ≡ true → (k : ℕ) × (k < length xs) × IsByteOf (get_or xs k d) b
area_at [] d b h = absurd (both_ways (lies_in [] b) (lies_in-nil b) h)
area_at (x ∷ xs) d b h = go (lies_in-cases x xs b h) (λ m. area_at xs d b m)
  where
    go : IsByteOf x b ⊎ (lies_in xs b ≡ true) → (lies_in xs b ≡ true → (k : ℕ) × (k < length xs) × IsByteOf (get_or xs k d) b)
        → (k : ℕ) × (k < length (x ∷ xs)) × IsByteOf (get_or (x ∷ xs) k d) b
    go (inl m) f = (0, omega arith, m)
    go (inr m) f = let r = f m in (suc r.0, omega (arith, r.1), r.2)

pub merged_ends : (xs : List Area) → IsMerged xs → IsNonDecreasingBy end_of xs
merged_ends xs m i j d l h = search (rules, cases_lt, merged_order)

-- ---- the place that the search finds

-- the areas that end by n stand before the place at
abbrev pub IsCut : List Area → ℕ → ℕ → Type 0
IsCut xs n at = IsPartitionPoint (λ y. leb (end_of y) n ≡ true) (λ y. leb (end_of y) n ≡ false) xs at

-- an area with a byte from n on doesn't stand before it
not_before : (xs : List Area) (n at k b : ℕ) (d : Area) → IsCut xs n at → at ≤ length xs → n ≤ b → k < length xs → IsByteOf (get_or xs k d) b → at ≤ k
not_before xs n at k b d cut w le l h = search rules

pub found_none : (xs : List Area) (n at : ℕ) → IsCut xs n at → at ≤ length xs → length xs ≤ at → (b : ℕ) → n ≤ b → lies_in xs b ≡ false
found_none xs n at cut w l b le =
    false_from_ne_true (lies_in xs b) (λ h.
    let z : Area = record { start = 0; len = 0 } in
    let r = area_at xs z b h in
    let k = not_before xs n at r.0 b z cut w le r.1 r.2 in
    omega (arith, r.1))

pub found_some : (xs : List Area) (n at : ℕ) (d : Area) → IsMerged xs → All (EndsBelow (2 ^ 32)) xs
    → IsCut xs n at → at < length xs → IsFirstAbove xs n (get_or xs at d)
found_some xs n at d m low cut l = record {
  ends = let f = leb-false _ _ (cut.1 at d (omega arith) l) in omega arith;
  low = low at d l;
  filled = merged_len xs at d m l;
  before = λ b le lt. false_from_ne_true (lies_in xs b) (λ h.
      let r = area_at xs d b h in
      let k = not_before xs n at r.0 b d cut (omega arith) le r.1 r.2 in
      earlier r.0 b k r.1 r.2 lt);
  inside = λ b le lt. lies_in-at xs at d b l le lt;
  after = false_from_ne_true (lies_in xs (end_of (get_or xs at d))) (λ h.
      let r = area_at xs d (end_of (get_or xs at d)) h in
      next r.0 r.1 r.2 (cases_lt at r.0) (cases_lt r.0 at));
}
  where
    earlier : (k b : ℕ) → at ≤ k → k < length xs → IsByteOf (get_or xs k d) b → b < (get_or xs at d).start → ⊥
    earlier k b le lt h bl = search (rules, cases_lt, merged_order)

    next : (k : ℕ) → k < length xs → IsByteOf (get_or xs k d) (end_of (get_or xs at d)) → (at < k) ⊎ (k ≤ at) → (k < at) ⊎ (at ≤ k) → ⊥
    next k lt h g f = search (rules, merged_order)

-- the area at that place, where there is one
pub found : (xs : List Area) (n at : ℕ) (o : Option (Bor Area)) → IsMerged xs → All (EndsBelow (2 ^ 32)) xs → IsCut xs n at → at ≤ length xs
    → MatchOption o (length xs ≤ at) (λ x. (at < length xs) × HoldsAt (λ y. x.now ≡ y) xs at) → IsNextArea xs n (option_copied o)
found xs n at None m low cut w h = found_none xs n at cut w h
found xs n at (Some x) m low cut w h = subst (λ a. IsFirstAbove xs n a) (sym (h.1 x.now)) (found_some xs n at x.now m low cut h.0)

-- ---- what the area found says of a range

pub meets_next : (xs : List Area) (start len : ℕ) (a : Area) → 0 < len → IsFirstAbove xs start a → (a.start < start + len) ↔ Meets xs start len
meets_next xs start len a p n = (to, from)
  where
    to : a.start < start + len → Meets xs start len
    to l =
        let e = n.ends in
        let f = n.filled in
        record { at = max start a.start; from = omega arith; below = omega arith; lies = n.inside (max start a.start) (omega arith) (omega arith) }

    late : (k : Meets xs start len) → start + len ≤ a.start → ⊥
    late k l = let lt = k.below in both_ways (lies_in xs k.at) (n.before k.at k.from (omega arith)) k.lies

    from : Meets xs start len → a.start < start + len
    from k = search (rules, cases_lt, late)
