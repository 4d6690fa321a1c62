-- A step that changes each byte of the range that it stores over.
use Rattle.chan_walk.proofs.Names.{[], AllByRecursion, ap, arith, begins_recalibrate, begins_set_mask, byte, carried, ccw_of, command_event, Ended, ends, Event, Gathered, Has, inl, inr, IsClear, Job, length, length-map-range_with_len, List, map, MovesData, Place, range_with_len, refl, rules, Step, storage_of, Store, stored, stores, subst, suc, sym, true, under_way, zero, ℕ, ◌++◌, ◌+◌, ◌<◌, ◌∙◌, ◌∷◌, ◌≡◌, ◌≤◌, ◌⊎◌}
use Rattle.chan_walk.specs.Machine.{IsStored}
use Rattle.chan_walk.proofs.Theory.Checks.{passed, data_fits}
use Rattle.chan_walk.proofs.Theory.Faults.{clear_check, clear_good}
use Rattle.chan_walk.proofs.Theory.Lists.{byte-map-range}
use Rattle.chan_walk.proofs.Machine.Events.{in_six}
use Rattle.chan_walk.proofs.Machine.Quiet.{full_count, inward_from, IsFew, kind_at, bytes_at, can_home, can_mask, seek_at}
use Rattle.chan_walk.proofs.Theory.Granting.{stores_parts}

abbrev changed : ℕ → ℕ
changed zero = 1
changed (suc n) = 0

changed_small : (n : ℕ) → changed n < 256
changed_small n = search rules

changed_not : (n : ℕ) → changed n ≡ n → ⊥
changed_not n e = search rules

all_small : (s xs : List ℕ) → AllByRecursion (λ b. b < 256) (map (λ a. changed (byte s a)) xs)
all_small s [] = tt
all_small s (x ∷ xs) = (changed_small (byte s x), all_small s xs)

-- storage with n bytes changed from a on
put : List ℕ → ℕ → ℕ → List ℕ
put [] a n = []
put (x ∷ xs) (suc a) n = x ∷ put xs a n
put (x ∷ xs) zero zero = x ∷ xs
put (x ∷ xs) zero (suc n) = changed x ∷ put xs zero n

length-put : (s : List ℕ) (a n : ℕ) → length (put s a n) ≡ length s
unfolding put
length-put [] a n = refl
length-put (x ∷ xs) (suc a) n = ap suc (length-put xs a n)
length-put (x ∷ xs) zero zero = refl
length-put (x ∷ xs) zero (suc n) = ap suc (length-put xs zero n)

put_in : (s : List ℕ) (a n b : ℕ) → a ≤ b → b < a + n → a + n ≤ length s → byte (put s a n) b ≡ changed (byte s b)
unfolding put
put_in [] a n b h k l = absurd (omega arith)
put_in (x ∷ xs) (suc a) n zero h k l = absurd (omega arith)
put_in (x ∷ xs) (suc a) n (suc b) h k l = put_in xs a n b (omega arith) (omega arith) (omega arith)
put_in (x ∷ xs) zero zero b h k l = absurd (omega arith)
put_in (x ∷ xs) zero (suc n) zero h k l = refl
put_in (x ∷ xs) zero (suc n) (suc b) h k l = put_in xs zero n b (omega arith) (omega arith) (omega arith)

put_out : (s : List ℕ) (a n b : ℕ) → (b < a) ⊎ (a + n ≤ b) → byte (put s a n) b ≡ byte s b
unfolding put
put_out [] a n b h = refl
put_out (x ∷ xs) (suc a) n zero h = refl
put_out (x ∷ xs) (suc a) n (suc b) (inl h) = put_out xs a n b (inl (omega arith))
put_out (x ∷ xs) (suc a) n (suc b) (inr h) = put_out xs a n b (inr (omega arith))
put_out (x ∷ xs) zero zero b h = refl
put_out (x ∷ xs) zero (suc n) zero (inl h) = absurd (omega arith)
put_out (x ∷ xs) zero (suc n) zero (inr h) = absurd (omega arith)
put_out (x ∷ xs) zero (suc n) (suc b) (inl h) = absurd (omega arith)
put_out (x ∷ xs) zero (suc n) (suc b) (inr h) = put_out xs zero n b (inr (omega arith))

-- a step from p that stores over the whole range of its CCW, and changes each byte there
pub record Rewrites (j : Job) (y : ℕ) (p : Place) (g : Gathered) : Type 0 where
  pub storage : List ℕ
  pub bytes : List ℕ
  pub es : List Event
  pub step : Step (storage_of j) y j.mask p g es storage y j.mask Ended
  pub stores : Has es (Store (ccw_of j p).address bytes)
  pub whole : length bytes ≡ (ccw_of j p).count
  pub changes : (b : ℕ) → (ccw_of j p).address ≤ b → b < (ccw_of j p).address + (ccw_of j p).count → byte storage b ≡ byte (storage_of j) b → ⊥

-- a clear place that stores can change all of its range
pub rewrite : (j : Job) (y : ℕ) (p : Place) (g : Gathered) → IsFew (under_way p (ccw_of j p) g) → IsClear j p → stores p (ccw_of j p) ≡ true → Rewrites j y p g
rewrite j y p g few f o =
    let c = ccw_of j p in
    let k = kind_at j p in
    let a = stores_parts p c o in
    let t = a.0 in
    let e = clear_check j p f in
    let inward = inward_from k a.1 in
    let fits = data_fits (length (storage_of j)) c (passed (storage_of j) p e t).data_in in
    let s = put (storage_of j) c.address c.count in
    let there = map (λ z. changed (byte (storage_of j) z)) (range_with_len c.address c.count) in
    let len : length there ≡ c.count = length-map-range_with_len (λ z. changed (byte (storage_of j) z)) c.address c.count in
    let is : IsStored (storage_of j) c.address there s = record {
      same_length = length-put (storage_of j) c.address c.count;
      inside = λ i l.
          put_in (storage_of j) c.address c.count (c.address + i) (omega arith) (omega (arith, len)) fits
          ∙ sym (byte-map-range (λ z. changed (byte (storage_of j) z)) c.address c.count i (omega (arith, len)));
      others = λ b o. put_out (storage_of j) c.address c.count b (subst (λ n. (b < c.address) ⊎ (c.address + n ≤ b)) len o);
    } in
    let whole : bytes_at j p ≡ c.count = ap (λ k. full_count k c) inward in
    let mv : MovesData c (bytes_at j p) (storage_of j) k (Store c.address there ∷ []) s =
    subst (λ z. MovesData c (bytes_at j p) (storage_of j) z (Store c.address there ∷ []) s) (sym inward)
    (stored a.2 (len ∙ sym whole) (all_small (storage_of j) (range_with_len c.address c.count)) is) in
    let sk = seek_at j y p g few in
    let hm = can_home j y (begins_recalibrate p c) in
    let fm = can_mask j c (bytes_at j p) j.mask (begins_set_mask p c) in
    record {
      storage = s;
      bytes = there;
      es = command_event p c ++ (Store c.address there ∷ []) ++ sk.es ++ hm.es ++ fm.es ++ [];
      step = carried e t (clear_good j p f t).known (omega (arith, whole)) mv sk.seeks hm.homes fm.sets ends;
      stores = in_six (command_event p c) (Store c.address there ∷ []) sk.es hm.es fm.es [] _ (inr (inl (inl refl)));
      whole = len;
      changes = λ b from below held. changed_not (byte (storage_of j) b) (sym (put_in (storage_of j) c.address c.count b from below fits) ∙ held);
    }
