-- The first bytes of a range that lie in no area of a merged list, and other leasts.
use Rattle.std.proofs.Common.{◌≡◌, ℕ, ◌+◌, ◌-◌, ◌<◌, ◌≤◌, true, false, max, List, Option, Some, None, arith, rules, subst, sym}
use Rattle.std.proofs.lemmas.Bool.{cases_lt, both_ways, true_from_ne_false}
use Rattle.ccw_core.specs.declared.areas.Area.{Area}
use Rattle.ccw_core.specs.Areas.{IsGap, covered, end_of, lies_in}
use Rattle.ccw_core.proofs.Covering.{covered-false, covered-true}
use Rattle.chan_areas.specs.Merged.{IsByteIn, IsByteOf, IsFirstAbove, IsLeastOf, IsLeastOrNone}

-- the first byte of a range in an area is the first of the area found, or the range's own first
pub first_of_next : (xs : List Area) (start len n : ℕ) (a : Area) → IsFirstAbove xs start a
    → n ≡ max a.start start → n < start + len → IsLeastOf (IsByteIn xs start len) n
first_of_next xs start len n a next e l = search rules

-- past it there is none
pub none_from_next : (xs : List Area) (start len n : ℕ) (a : Area) → IsFirstAbove xs start a
    → n ≡ max a.start start → start + len ≤ n → (m : ℕ) → IsByteIn xs start len m → ⊥
none_from_next xs start len n a next e l m h = search rules

-- ---- the gap from the first byte in no area on

module _ (xs : List Area) (r : Area) where
  -- each byte lies in some area if none lies in no area
  pub no_gap : ((b : ℕ) → IsByteOf r b × (lies_in xs b ≡ false) → ⊥) → covered xs r.start r.len ≡ true
  no_gap none = covered-true xs r.start r.len (λ b l h. true_from_ne_false (lies_in xs b) (λ f. none b ((l, h), f)))

  pub gap_from : (s e : ℕ) → IsLeastOf (λ b. IsByteOf r b × (lies_in xs b ≡ false)) s → s < e → e ≤ end_of r
      → ((b : ℕ) → s ≤ b → b < e → lies_in xs b ≡ false) → (e < end_of r → lies_in xs e ≡ true) → IsGap xs r (Some (record { start = s; len = e - s }))
  gap_from s e out l h inside after = (
    covered-false xs r.start r.len s out.0.0.0 out.0.0.1 out.0.1,
    record {
      from = out.0.0.0;
      filled = omega arith;
      within = omega arith;
      before = λ b f k. true_from_ne_false (lies_in xs b) (λ n. let m = out.1 b ((f, omega (arith, out.0.0.1)), n) in omega arith);
      inside = λ b f k. inside b f (omega arith);
      after = λ k. let same : s + (e - s) ≡ e = omega arith in subst (λ n. lies_in xs n ≡ true) (sym same) (after (omega arith));
    },
  )

-- a byte in no area lies before the next area
pub before_next : (xs : List Area) (s : ℕ) (a : Area) → lies_in xs s ≡ false → IsFirstAbove xs s a → s < a.start
before_next xs s a f n = search (rules, cases_lt, both_ways)

-- ---- of any numbers

-- the same of what says the same
pub least_same : (P Q : ℕ → Type 0) (o : Option ℕ) → ((b : ℕ) → P b → Q b) → ((b : ℕ) → Q b → P b) → IsLeastOrNone P o → IsLeastOrNone Q o
least_same P Q None f g h = λ b q. h b (g b q)
least_same P Q (Some n) f g h = (f n h.0, λ m q. h.1 m (g m q))
