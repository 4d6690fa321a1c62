-- Areas clipped to a length of storage.
use Rattle.std.proofs.Common.{◌≡◌, ℕ, ◌<◌, true, List, [], ◌∷◌, map, subst, sym, ◌↔◌, arith, rules}
use Rattle.std.specs.List.{All}
use Rattle.std.proofs.lemmas.Bool.{both_ways}
use Rattle.std.proofs.lemmas.List.Elements.{All-map}
use Rattle.ccw_core.specs.declared.areas.Area.{Area}
use Rattle.ccw_core.specs.Areas.{lies_in}
use Rattle.ccw_core.proofs.Covering.{lies_in-nil}
use Rattle.chan_areas.specs.Clip.{clip}
use Rattle.chan_areas.specs.Merged.{AreExactly, EndsBelow}
use Rattle.chan_areas.proofs.Merging.{lies_in-cases, lies_in-first, lies_in-rest}

lies_in-clip : (n : ℕ) (xs : List Area) (b : ℕ) → (lies_in (map (clip n) xs) b ≡ true) ↔ ((b < n) × (lies_in xs b ≡ true))
lies_in-clip n [] b = search (rules, both_ways, lies_in-nil)
lies_in-clip n (x ∷ xs) b = search (rules, lies_in-cases, lies_in-first, lies_in-rest, lies_in-clip n xs b)

-- what is clipped to n bytes ends by n
pub clipped_low : (n m : ℕ) (xs ys : List Area) → ys ≡ map (clip n) xs → n < m → All (EndsBelow m) ys
clipped_low n m xs ys e l = subst (All (EndsBelow m)) (sym e) (All-map (EndsBelow m) (clip n) xs (λ i d k. omega arith))

-- and has the bytes below n
pub clipped_bytes : (n : ℕ) (xs ys merged : List Area) → ys ≡ map (clip n) xs
    → AreExactly (λ b. lies_in ys b ≡ true) merged → AreExactly (λ b. (b < n) × (lies_in xs b ≡ true)) merged
clipped_bytes n xs ys merged e h = record {
  merged = h.merged;
  bytes = λ b.
      let f = subst (λ zs. (lies_in merged b ≡ true) ↔ (lies_in zs b ≡ true)) e (h.bytes b) in
      let g = lies_in-clip n xs b in
      ((λ k. g.0 (f.0 k)), λ k. f.1 (g.1 k));
}
