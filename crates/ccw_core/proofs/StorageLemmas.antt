-- Where a channel command word stands in storage, and where none does.
use Rattle.std.proofs.Common.{◌≡◌, ◌≤◌, ◌<◌, ◌+◌, ◌%◌, ◌&&◌, ℕ, Bool, true, false, if◌then◌else◌, refl, List, length, take, drop, Some, None, arith, eq-eqb}
use Rattle.std.proofs.lemmas.Bool.{and_left, and_right, and_from, le-leb, lt-leb, cond-false, cond-true, false_from_ne_true, eqb-true}
use Rattle.std.proofs.lemmas.List.{get_or-take, get_or-drop}
use Rattle.ccw_core.specs.Ccw.{Fields, ccw}
use Rattle.ccw_core.specs.Storage.{Stands, ccw_at, is_aligned, is_inside}
use Rattle.ccw_core.proofs.CcwLemmas.{ccw-same}

pub is_aligned-true : (a : ℕ) → a % 8 ≡ 0 → is_aligned a ≡ true
unfolding is_aligned
is_aligned-true a h = eq-eqb _ _ h

pub is_aligned-false : (a : ℕ) → (a % 8 ≡ 0 → ⊥) → is_aligned a ≡ false
unfolding is_aligned
is_aligned-false a h = false_from_ne_true _ (λ t. h (eqb-true _ _ t))

pub is_inside-true : (n a : ℕ) → a + 8 ≤ n → is_inside n a ≡ true
unfolding is_inside
is_inside-true n a h = le-leb _ _ h

pub is_inside-false : (n a : ℕ) → n < a + 8 → is_inside n a ≡ false
unfolding is_inside
is_inside-false n a h = lt-leb _ _ h

pub ccw_at-misaligned : (s : List ℕ) (a : ℕ) → (a % 8 ≡ 0 → ⊥) → ccw_at s a ≡ None
ccw_at-misaligned s a h = cond-false _ _ _ (and_left _ _ (is_aligned-false a h))

pub ccw_at-outside : (s : List ℕ) (a : ℕ) → length s < a + 8 → ccw_at s a ≡ None
ccw_at-outside s a h = cond-false _ _ _ (and_right _ _ (is_inside-false (length s) a h))

pub ccw_at-stands : (s : List ℕ) (a : ℕ) → a % 8 ≡ 0 → a + 8 ≤ length s → ccw_at s a ≡ Some (ccw s a)
ccw_at-stands s a h k = cond-true _ _ _ (and_from _ _ (is_aligned-true a h) (is_inside-true (length s) a k))

-- the CCW in eight bytes taken out of storage is the CCW that stands there
pub ccw-part : (s : List ℕ) (a : ℕ) → ccw (take 8 (drop a s)) 0 ≡ ccw s a
ccw-part s a = ccw-same (take 8 (drop a s)) s 0 a (λ i h. grind (arith, get_or-take, get_or-drop))

-- what a word that was found shows
pub ccw_at-some : (s : List ℕ) (a : ℕ) (c : Fields) → ccw_at s a ≡ Some c → (is_aligned a ≡ true) × (is_inside (length s) a ≡ true) × (c ≡ ccw s a)
ccw_at-some s a c h = go (is_aligned a) (is_inside (length s) a) refl refl h
  where
    go : (x y : Bool) → is_aligned a ≡ x → is_inside (length s) a ≡ y → (if x && y then Some (ccw s a) else None) ≡ Some c
        → (is_aligned a ≡ true) × (is_inside (length s) a ≡ true) × (c ≡ ccw s a)
    go true true e f k = (e, f, cc)
    go true false e f k = absurd (cc)
    go false y e f k = absurd (cc)

-- what it shows that none was found
pub ccw_at-none : (s : List ℕ) (a : ℕ) → ccw_at s a ≡ None → (is_aligned a && is_inside (length s) a) ≡ false
ccw_at-none s a h = go (is_aligned a && is_inside (length s) a) refl h
  where
    go : (x : Bool) → (is_aligned a && is_inside (length s) a) ≡ x
        → (if x then Some (ccw s a) else None) ≡ None → (is_aligned a && is_inside (length s) a) ≡ false
    go true e k = absurd (cc)
    go false e k = e

-- where one stands, it is found
pub ccw_at-where : (s : List ℕ) (a : ℕ) → Stands s a → ccw_at s a ≡ Some (ccw s a)
ccw_at-where s a h = cond-true _ _ _ (and_from _ _ h.0 h.1)
