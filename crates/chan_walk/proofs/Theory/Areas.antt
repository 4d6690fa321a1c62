-- What covered ranges and allowed arguments say of each byte and cylinder.
use Rattle.chan_walk.proofs.Names.{allows, and_from, and_parts, Area, arith, cases_lt, covered, cylinder_of, extents_of, false, has_cylinder, heads, heads_of, home, is_allowed, Job, lies_in, List, refl, rules, suc, true, zero, ℕ, ◌+◌, ◌<◌, ◌≡◌, ◌≤◌}
use Rattle.std.proofs.lemmas.Bool.{and_cases, lt-ltb}
use Rattle.ckd_core.specs.declared.device.Device.{Device}

pub covered_at : (areas : List Area) (a n b : ℕ) → covered areas a n ≡ true → a ≤ b → b < a + n → lies_in areas b ≡ true
covered_at areas a zero b h le lt = absurd (omega arith)
covered_at areas a (suc n) b h le lt = search (rules, cases_lt, and_parts, covered_at areas (suc a) n b)

pub uncovered : (areas : List Area) (a n : ℕ) → covered areas a n ≡ false → (b : ℕ) × (a ≤ b) × (b < a + n) × (lies_in areas b ≡ false)
uncovered areas a zero h = absurd (cc)
uncovered areas a (suc n) h = search (rules, and_cases, uncovered areas (suc a) n)

has_heads : (d : Device) → 0 < heads_of d
has_heads d = search rules

pub allows_cylinder : (j : Job) (x : List ℕ) → allows j x ≡ true → has_cylinder (extents_of j) (cylinder_of x) ≡ true
unfolding is_allowed
allows_cylinder j x h = (and_parts _ _ (and_parts _ _ h).0).1

pub allows_home : (j : Job) → has_cylinder (extents_of j) 0 ≡ true → allows j home ≡ true
unfolding is_allowed
allows_home j e = and_from _ _ (and_from _ _ refl e) (lt-ltb 0 (heads j) (has_heads j.device))

pub home_refused : (j : Job) → has_cylinder (extents_of j) 0 ≡ false → allows j home ≡ false
unfolding is_allowed
home_refused j h = rw h refl
