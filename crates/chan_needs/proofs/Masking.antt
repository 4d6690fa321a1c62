-- Bounds of levels, and the strictest mask within them.
use Rattle.chan_needs.proofs.Names.{ap, AreBounds, arith, IsStrictest, mask_of, min, seek_level, seek_level-le, strict-levels, sym, write_level, write_level-le, ℕ, ◌↔◌, ◌∙◌, ◌≡◌, ◌≤◌}
use Rattle.ckd_core.proofs.LevelLemmas.{levels-mask_of, mask_of-levels}
use Rattle.chan_needs.specs.Needs.{NeededMaskIsOne}

pub bounds_same : (P Q : ℕ → Type 0) (w s : ℕ) → ((m : ℕ) → P m ↔ Q m) → AreBounds P w s → AreBounds Q w s
bounds_same P Q w s f h m = ((λ q. (h m).0 ((f m).1 q)), λ l. (f m).0 ((h m).1 l))

pub bounds_of_any : (P : ℕ → Type 0) → ((m : ℕ) → P m) → AreBounds P 3 3
bounds_of_any P f m = ((λ p. (write_level-le m, seek_level-le m)), λ l. f m)

pub bounds_of_both : (P Q : ℕ → Type 0) (w s v t : ℕ) → AreBounds P w s → AreBounds Q v t → AreBounds (λ m. P m × Q m) (min w v) (min s t)
bounds_of_both P Q w s v t h k m = (
  λ p. let a = (h m).0 p.0 in let b = (k m).0 p.1 in (omega arith, omega arith),
  λ l. ((h m).1 (omega (arith, l.0), omega (arith, l.1)), (k m).1 (omega (arith, l.0), omega (arith, l.1))),
)

pub strictest_same : (P Q : ℕ → Type 0) (m : ℕ) → ((x : ℕ) → P x ↔ Q x) → IsStrictest P m → IsStrictest Q m
strictest_same P Q m f h = record { right = h.right; small = h.small; holds = (f m).0 h.holds; strictest = λ x q. h.strictest x ((f x).1 q) }

-- the mask of the levels is the strictest
pub strictest : (P : ℕ → Type 0) (w s : ℕ) → w ≤ 3 → s ≤ 3 → AreBounds P w s → IsStrictest P (mask_of w s)
strictest P w s a b h =
    let m = mask_of-levels w s a b in
    record {
      right = m.right;
      small = m.small;
      holds = (h (mask_of w s)).1 (omega (arith, m.writes), omega (arith, m.seeks));
      strictest = λ x p. let l = (h x).0 p in (strict-levels (mask_of w s) x m.right).1 (omega (arith, m.writes), omega (arith, m.seeks));
    }

pub needed_mask_is_one : NeededMaskIsOne
needed_mask_is_one j m n a b =
    let f = (strict-levels m n a.right).0 (a.strictest n b.holds) in
    let g = (strict-levels n m b.right).0 (b.strictest m a.holds) in
    let w : write_level m ≡ write_level n = omega arith in
    let s : seek_level m ≡ seek_level n = omega arith in
    sym (levels-mask_of m a.right a.small) ∙ ap (λ l. mask_of l (seek_level m)) w ∙ ap (mask_of (write_level n)) s ∙ levels-mask_of n b.right b.small
