-- Ranges that areas cover, by jumps from the end of one area to the end of another.
use Rattle.std.proofs.Common.{◌≡◌, ℕ, zero, suc, ◌+◌, ◌<◌, ◌≤◌, true, false, ◌&&◌, nat_le, nat_lt, List, [], ◌∷◌, length, get_or, take, refl, sym, subst, ◌⊎◌, inl, inr, arith}
use Rattle.std.proofs.lemmas.Bool.{both_ways, cases_lt, or_left, or_right, and_from, and_left, and_right, le-leb, lt-ltb, lt-leb, le-ltb, or_from, or_parts}
use Rattle.ccw_core.specs.declared.areas.Area.{Area}
use Rattle.ccw_core.specs.Areas.{lies_in, covered}

-- a byte of one area
pub lies_in-at : (areas : List Area) (i : ℕ) (d : Area) (b : ℕ) → i < length areas → (get_or areas i d).start ≤ b
    → b < (get_or areas i d).start + (get_or areas i d).len → lies_in areas b ≡ true
unfolding lies_in
lies_in-at [] i d b l h k = absurd (omega arith)
lies_in-at (a ∷ areas) zero d b l h k = or_left _ _ (and_from _ _ (le-leb _ _ h) (lt-ltb _ _ k))
lies_in-at (a ∷ areas) (suc i) d b l h k = or_right _ _ (lies_in-at areas i d b (omega arith) h k)

in_front : (areas : List Area) (i : ℕ) (d : Area) (b : ℕ) → i < length areas → lies_in (take i areas) b ≡ false
    → (b < (get_or areas i d).start) ⊎ ((get_or areas i d).start + (get_or areas i d).len ≤ b) → lies_in (take (suc i) areas) b ≡ false
unfolding lies_in
in_front [] i d b l h k = absurd (omega arith)
in_front (a ∷ areas) zero d b l h k = or_from _ _ (outside k) refl
  where
    outside : (b < a.start) ⊎ (a.start + a.len ≤ b) → (nat_le a.start b && nat_lt b (a.start + a.len)) ≡ false
    outside (inl x) = and_left _ _ (lt-leb _ _ x)
    outside (inr x) = and_right _ _ (le-ltb _ _ x)
in_front (a ∷ areas) (suc i) d b l h k = or_from _ _ (or_parts _ _ h).0 (in_front areas i d b (omega arith) (or_parts _ _ h).1 k)

-- a byte that is in none of the areas so far, nor in the next
pub lies_in-more : (areas : List Area) (i : ℕ) (d : Area) (b : ℕ) → i < length areas → lies_in (take i areas) b ≡ false
    → (b < (get_or areas i d).start) ⊎ ((get_or areas i d).start + (get_or areas i d).len ≤ b) → lies_in (take (i + 1) areas) b ≡ false
lies_in-more areas i d b l h k = let e : suc i ≡ i + 1 = omega arith in subst (λ n. lies_in (take n areas) b ≡ false) e (in_front areas i d b l h k)

-- no byte lies in no area
pub lies_in-nil : (b : ℕ) → lies_in [] b ≡ false
unfolding lies_in
lies_in-nil b = refl

-- each byte of the range lies in an area
pub covered-true : (areas : List Area) (a n : ℕ) → ((b : ℕ) → a ≤ b → b < a + n → lies_in areas b ≡ true) → covered areas a n ≡ true
covered-true areas a zero f = refl
covered-true areas a (suc n) f = and_from _ _ (f a (omega arith) (omega arith)) (covered-true areas (suc a) n (λ b l h. f b (omega arith) (omega arith)))

-- a byte of the range lies in no area
pub covered-false : (areas : List Area) (a n b : ℕ) → a ≤ b → b < a + n → lies_in areas b ≡ false → covered areas a n ≡ false
covered-false areas a zero b l h d = absurd (omega arith)
covered-false areas a (suc n) b l h d = go (cases_lt a b) (λ k. covered-false areas (suc a) n b (omega arith) (omega arith) d)
  where
    go : (a < b) ⊎ (b ≤ a) → (a < b → covered areas (suc a) n ≡ false) → (lies_in areas a && covered areas (suc a) n) ≡ false
    go (inl k) f = and_right _ _ (f k)
    go (inr k) f = let e : a ≡ b = omega arith in and_left _ _ (subst (λ z. lies_in areas z ≡ false) (sym e) d)

-- ---- where bytes that no area has end

-- of the first i areas none has a byte from start on and before stop, where some area begins if end isn't reached
pub record IsGapAmong (areas : List Area) (start end i stop : ℕ) : Type 0 where
  pub filled : start < stop
  pub within : stop ≤ end
  pub inside : (b : ℕ) → start ≤ b → b < stop → lies_in (take i areas) b ≡ false
  pub after : stop < end → lies_in areas stop ≡ true

module _ (areas : List Area) (start end i stop : ℕ) (d : Area)
    (g : IsGapAmong areas start end i stop) (l : i < length areas) (out : lies_in areas start ≡ false) where
  abbrev area : Area
  area = get_or areas i d

  -- the next area begins before
  pub stops_there : start < area.start → area.start < stop → 0 < area.len → IsGapAmong areas start end (i + 1) area.start
  stops_there s t f = record {
    filled = s;
    within = omega (arith, g.within);
    inside = λ b h k. lies_in-more areas i d b l (g.inside b h (omega arith)) (inl k);
    after = λ k. lies_in-at areas i d area.start l (omega arith) (omega arith);
  }

  -- it doesn't
  pub stops_later : (start < area.start → 0 < area.len → stop ≤ area.start) → IsGapAmong areas start end (i + 1) stop
  stops_later later = record {
    filled = g.filled;
    within = g.within;
    inside = λ b h k. lies_in-more areas i d b l (g.inside b h k) (outside b h k);
    after = g.after;
  }
    where
      empty_or_before : (b : ℕ) → start ≤ b → b < stop → (start < area.start) ⊎ (area.start ≤ start) → (b < area.start) ⊎ (area.start + area.len ≤ b)
      empty_or_before b h k (inl s) = by_len (cases_lt 0 area.len)
        where
          by_len : (0 < area.len) ⊎ (area.len ≤ 0) → (b < area.start) ⊎ (area.start + area.len ≤ b)
          by_len (inl f) = let t = later s f in inl (omega arith)
          by_len (inr e) = by_start (cases_lt b area.start)
            where
              by_start : (b < area.start) ⊎ (area.start ≤ b) → (b < area.start) ⊎ (area.start + area.len ≤ b)
              by_start (inl x) = inl x
              by_start (inr x) = inr (omega arith)
      empty_or_before b h k (inr s) = by_end (cases_lt start (area.start + area.len))
        where
          by_end : (start < area.start + area.len) ⊎ (area.start + area.len ≤ start) → (b < area.start) ⊎ (area.start + area.len ≤ b)
          by_end (inl x) = absurd (both_ways _ out (lies_in-at areas i d start l s x))
          by_end (inr x) = inr (omega arith)

      outside : (b : ℕ) → start ≤ b → b < stop → (b < area.start) ⊎ (area.start + area.len ≤ b)
      outside b h k = empty_or_before b h k (cases_lt start area.start)
