-- A program is retraced, from the places that end it back to those before them.
use Rattle.chan_why.proofs.Names.{[], AddsPredecessor, ap, append_assoc, AreBuckets, AreLooks, ArePredecessors, AreReached, arith, at_has, Bool, both_ways, bucket_of, BucketEndsAt, cases_eq, cases_lt, EndsAfter, EndsTheProgram, false, FindsMore, get_or, Has, has_at, has_push, HasBefore, inl, inr, IsClear, IsFirstPlace, IsLeftUnmarked, IsOwnFault, Job, length, List, MarksFound, None, not, number_of_places, one_after, Option, own_clear, Place, place_number, places_of_looks, Predecessor, Predecessors, refl, rules, same_number, Seen, set, slice_get_within, Some, subst, suc, sym, take, true, zero, ℕ, ◌++◌, ◌+◌, ◌-◌, ◌<◌, ◌↔◌, ◌∙◌, ◌∷◌, ◌≡◌, ◌≤◌, ◌⊎◌}
use Rattle.std.proofs.Common.{cond}
use Rattle.std.specs.List.{count_by, slice_get}
use Rattle.std.proofs.lemmas.Bool.{false_from_ne_true}
use Rattle.std.proofs.lemmas.List.{append-nil, get_or-set_other, get_or-set_same, get_or_append_left, get_or_past, length-append, length-set, length-take, take-append-le, take_at}
use Rattle.std.proofs.lemmas.List.Sums.{sum_by-set}
use Rattle.std.proofs.lemmas.Option.{get_or_from_slice_get}
use Rattle.chan_why.specs.declared.hang.FoundLooks.{FoundLooks}
use Rattle.chan_walk.specs.Walk.{Follows, IsAmong}
use Rattle.chan_why.specs.Hang.{CanEnd, ComesAfter, ComesBefore, IsEarlier, MayHang, end_after}
use Rattle.chan_walk.proofs.Algorithms.Looking.{clear_shows_none}
use Rattle.chan_walk.proofs.Algorithms.Walking.{follows_exactly}
use Rattle.chan_walk.proofs.Theory.Lists.{front_at, has_left, last_at, pushed, same_at, taken_at}
use Rattle.chan_why.proofs.Indexing.{look_there}

has_get : (xs : List ℕ) (i : ℕ) → i < length xs → Has xs (get_or xs i 0)
has_get [] i h = absurd (omega arith)
has_get (x ∷ xs) zero h = inl refl
has_get (x ∷ xs) (suc i) h = inr (has_get xs i (omega arith))

-- ---- buckets

ends_other : (n r : ℕ) (ps : List Predecessor) (x : Predecessor) (m : ℕ) → (bucket_of n x.of ≡ r → ⊥) → BucketEndsAt n r ps m
    → BucketEndsAt n r (ps ++ x ∷ []) m
ends_other n r ps x m d e = record {
  last = λ k is. let l = e.last k is in (l.0, front_at ps (x ∷ []) k l.0 l.1, l.2);
  none = λ i p le s. go i p le (pushed ps x p i s);
}
  where
    go : (i : ℕ) (p : Predecessor) → m ≤ i → (slice_get ps i ≡ Some p) ⊎ ((i ≡ length ps) × (x ≡ p)) → bucket_of n p.of ≡ r → ⊥
    go i p le (inl s) = e.none i p le s
    go i p le (inr s) = λ h. d (ap (λ (z : Predecessor). bucket_of n z.of) s.1 ∙ h)

ends_here : (n : ℕ) (ps : List Predecessor) (x : Predecessor) → BucketEndsAt n (bucket_of n x.of) (ps ++ x ∷ []) (length ps + 1)
ends_here n ps x = record {
  last = λ k is. let e : length ps ≡ k = omega (arith, is) in (x, subst (λ z. slice_get (ps ++ x ∷ []) z ≡ Some x) e (last_at ps x), refl);
  none = λ i p le s. go i p le (pushed ps x p i s);
}
  where
    go : (i : ℕ) (p : Predecessor) → length ps + 1 ≤ i → (slice_get ps i ≡ Some p) ⊎ ((i ≡ length ps) × (x ≡ p)) → bucket_of n p.of ≡ bucket_of n x.of → ⊥
    go i p le (inl s) h = absurd (omega (arith, le, slice_get_within ps i p s))
    go i p le (inr s) h = absurd (omega (arith, le, s.0))

-- one more in its bucket
buckets_more : (p q : Predecessors) (x : Predecessor) → AreBuckets p → q.list.items ≡ p.list.items ++ x ∷ []
    → x.before ≡ get_or p.ends.items (bucket_of (length p.ends.items) x.of) 0
    → q.ends.items ≡ set p.ends.items (bucket_of (length p.ends.items) x.of) (length p.list.items + 1)
    → bucket_of (length p.ends.items) x.of < length p.ends.items → AreBuckets q
buckets_more p q x a list before ends low = record {
  some = omega (arith, a.some, len);
  ends = λ r l. rw (len, list, ends) (end r (omega (arith, l, len)) (cases_eq r at));
  before = λ i y s. rw (len, list) (old i y (pushed ps x y i (subst (λ z. slice_get z i ≡ Some y) list s)));
}
  where
    n : ℕ
    n = length p.ends.items

    ps : List Predecessor
    ps = p.list.items

    at : ℕ
    at = bucket_of n x.of

    len : length q.ends.items ≡ length p.ends.items
    len = ap length ends ∙ length-set p.ends.items at (length ps + 1)

    end : (r : ℕ) → r < n → (r ≡ at) ⊎ (r ≡ at → ⊥) → BucketEndsAt n r (ps ++ x ∷ []) (get_or (set p.ends.items at (length ps + 1)) r 0)
    end r l (inl e) =
        subst (λ z. BucketEndsAt n z (ps ++ x ∷ []) (get_or (set p.ends.items at (length ps + 1)) z 0)) (sym e)
        (subst (BucketEndsAt n at (ps ++ x ∷ [])) (sym (get_or-set_same p.ends.items at (length ps + 1) 0 low)) (ends_here n ps x))
    end r l (inr d) =
        subst (BucketEndsAt n r (ps ++ x ∷ [])) (sym (get_or-set_other p.ends.items at r (length ps + 1) 0 d))
        (ends_other n r ps x (get_or p.ends.items r 0) (λ e. d (sym e)) (a.ends r l))

    old : (i : ℕ) (y : Predecessor) → (slice_get ps i ≡ Some y) ⊎ ((i ≡ length ps) × (x ≡ y))
        → BucketEndsAt n (bucket_of n y.of) (take i (ps ++ x ∷ [])) y.before
    old i y (inl s) =
        subst (λ z. BucketEndsAt n (bucket_of n y.of) z y.before)
        (sym (take-append-le i ps (x ∷ []) (omega (arith, slice_get_within ps i y s)))) (a.before i y s)
    old i y (inr s) =
        subst (λ (y : Predecessor). BucketEndsAt n (bucket_of n y.of) (take i (ps ++ x ∷ [])) y.before) s.1
        (subst (λ z. BucketEndsAt n at z x.before) (sym (take_at ps (x ∷ []) i (sym s.0))) (subst (BucketEndsAt n at ps) (sym before) (a.ends at low)))

pub one_added : (at of : ℕ) (p q : Predecessors) (x : Predecessor) → x.of ≡ of → x.at ≡ at → AreBuckets p
    → q.list.items ≡ p.list.items ++ x ∷ [] → x.before ≡ get_or p.ends.items (bucket_of (length p.ends.items) x.of) 0
    → q.ends.items ≡ set p.ends.items (bucket_of (length p.ends.items) x.of) (length p.list.items + 1)
    → bucket_of (length p.ends.items) x.of < length p.ends.items → AddsPredecessor at (Some of) p q
one_added at of p q x e d a list before ends low = record { buckets = buckets_more p q x a list before ends low; has = λ o k. (to o k, from o k) }
  where
    to : (o k : ℕ) → HasBefore q.list.items o k → HasBefore p.list.items o k ⊎ ((Some of ≡ Some o) × (at ≡ k))
    to o k h = go ((has_push p.list.items x h.0).0 (subst (λ z. Has z h.0) list h.1))
      where
        go : Has p.list.items h.0 ⊎ (x ≡ h.0) → HasBefore p.list.items o k ⊎ ((Some of ≡ Some o) × (at ≡ k))
        go (inl m) = inl (h.0, m, h.2, h.3)
        go (inr s) = inr (ap Some (sym e ∙ ap (λ (z : Predecessor). z.of) s ∙ h.2), sym d ∙ ap (λ (z : Predecessor). z.at) s ∙ h.3)

    from : (o k : ℕ) → HasBefore p.list.items o k ⊎ ((Some of ≡ Some o) × (at ≡ k)) → HasBefore q.list.items o k
    from o k (inl h) = (h.0, subst (λ z. Has z h.0) (sym list) (has_left p.list.items (x ∷ []) h.0 h.1), h.2, h.3)
    from o k (inr h) =
        let same : of ≡ o = let s = h.0 in cc in
        (x, subst (λ z. Has z x) (sym list) ((has_push p.list.items x x).1 (inr refl)), e ∙ same, d ∙ h.1)

-- one look more
pub before_more : (ls : List Seen) (i : ℕ) (l : Seen) (p q r t : Predecessors) → slice_get ls i ≡ Some l
    → ArePredecessors ls i p.list.items → AddsPredecessor i (end_after l) p q → AddsPredecessor i (one_after l.next.next) q r
    → AddsPredecessor i (one_after l.next.skip) r t → ArePredecessors ls (i + 1) t.list.items
before_more ls i l p q r t here are x y z = record {
  only = λ at of h. only at of ((all of at).0 h);
  each = λ at of m w. (all of at).1 (each at of w (cases_lt at i) m);
}
  where
    all : (of at : ℕ) → HasBefore t.list.items of at ↔ (HasBefore p.list.items of at ⊎ (ComesAfter l of × (i ≡ at)))
    all of at = search (rules, x.has of at, y.has of at, z.has of at)

    only : (at of : ℕ) → HasBefore p.list.items of at ⊎ (ComesAfter l of × (i ≡ at)) → ComesBefore ls at of
    only at of (inl h) = are.only at of h
    only at of (inr h) = (l, ap (slice_get ls) (sym h.1) ∙ here, h.0)

    each : (at of : ℕ) → ComesBefore ls at of → (at < i) ⊎ (i ≤ at) → at < i + 1 → HasBefore p.list.items of at ⊎ (ComesAfter l of × (i ≡ at))
    each at of w (inl k) m = inl (are.each at of k w)
    each at of w (inr k) m = let d : at ≡ i = omega arith in inr (subst (λ x. ComesAfter x of) (same_at ls at i w.0 l w.1 here d) w.2, sym d)

-- ---- what is found

-- the looks of P are found already
pub finds_known : (n : ℕ) (P : ℕ → Type 0) (f : FoundLooks) → MarksFound n f → ((k : ℕ) → P k → Has f.order.items k) → FindsMore n P f f
finds_known n P f m known = record { marked = m; more = []; order = sym (append-nil f.order.items); found = λ k. search (rules, known) }

pub finds_as : (n : ℕ) (P Q : ℕ → Type 0) (f g : FoundLooks) → ((k : ℕ) → P k ↔ Q k) → FindsMore n P f g → FindsMore n Q f g
finds_as n P Q f g same r = record { marked = r.marked; more = r.more; order = r.order; found = λ k. search (rules, same k, r.found k) }

pub finds_both : (n : ℕ) (P Q : ℕ → Type 0) (f g h : FoundLooks) → FindsMore n P f g → FindsMore n Q g h → FindsMore n (λ k. P k ⊎ Q k) f h
finds_both n P Q f g h one other = record {
  marked = other.marked;
  more = one.more ++ other.more;
  order = other.order ∙ ap (λ z. z ++ other.more) one.order ∙ append_assoc f.order.items one.more other.more;
  found = λ k. search (rules, one.found k, other.found k);
}

marks_more : (ms : List Bool) (fs : List ℕ) (at k : ℕ) → at < length ms
    → (get_or ms k false ≡ true) ↔ Has fs k → (get_or (set ms at true) k false ≡ true) ↔ (Has fs k ⊎ (at ≡ k))
marks_more ms fs at k l same = go (cases_eq k at)
  where
    go : (k ≡ at) ⊎ (k ≡ at → ⊥) → (get_or (set ms at true) k false ≡ true) ↔ (Has fs k ⊎ (at ≡ k))
    go (inl e) = ((λ h. inr (sym e)), λ h. subst (λ z. get_or (set ms at true) z false ≡ true) (sym e) (get_or-set_same ms at true false l))
    go (inr d) = let e = get_or-set_other ms at k true false d in ((λ h. inl (same.0 (sym e ∙ h))), λ h. back e h)
      where
        back : get_or (set ms at true) k false ≡ get_or ms k false → Has fs k ⊎ (at ≡ k) → get_or (set ms at true) k false ≡ true
        back e (inl h) = e ∙ same.1 h
        back e (inr h) = absurd (d (sym h))

-- one look more
pub find_one : (n : ℕ) (f g : FoundLooks) (at : ℕ) → MarksFound n f → at < n → get_or f.marks.items at false ≡ false
    → g.marks.items ≡ set f.marks.items at true → g.order.items ≡ f.order.items ++ at ∷ [] → FindsMore n (λ k. at ≡ k) f g
find_one n f g at m l off marks order = record {
  marked = record {
    len = ap length marks ∙ length-set f.marks.items at true ∙ m.len;
    agrees = λ k. search (rules, found k, more k);
    once = omega (
      arith,
      m.once,
      ap length order,
      length-append f.order.items (at ∷ []),
      ap (count_by not) marks,
      sum_by-set (λ b. cond (not b) 1 0) f.marks.items at true false within,
      ap {B = ℕ} (λ b. cond (not b) 1 0) off,
    );
  };
  more = at ∷ [];
  order = order;
  found = found;
}
  where
    within : at < length f.marks.items
    within = omega (arith, m.len)

    found : (k : ℕ) → Has g.order.items k ↔ (Has f.order.items k ⊎ (at ≡ k))
    found k = rw order (search (rules, has_push f.order.items at k))

    more : (k : ℕ) → (get_or g.marks.items k false ≡ true) ↔ (Has f.order.items k ⊎ (at ≡ k))
    more k = rw marks (marks_more f.marks.items f.order.items at k within (m.agrees k))

pub found_within : (n : ℕ) (f : FoundLooks) (i : ℕ) → MarksFound n f → i < length f.order.items → get_or f.order.items i 0 < n
found_within n f i m l = go (cases_lt (get_or f.order.items i 0) n)
  where
    go : (get_or f.order.items i 0 < n) ⊎ (n ≤ get_or f.order.items i 0) → get_or f.order.items i 0 < n
    go (inl h) = h
    go (inr h) =
        absurd (both_ways _ (get_or_past f.marks.items (get_or f.order.items i 0) false (omega (arith, m.len)))
        ((m.agrees (get_or f.order.items i 0)).1 (has_get f.order.items i l)))

-- ---- those before something

-- one of the list, from m on, is the look k before this
abbrev pub IsListed : List Predecessor → ℕ → ℕ → ℕ → Type 0
IsListed ps of m k = (i : ℕ) × (p : Predecessor) × (m ≤ i) × (slice_get ps i ≡ Some p) × (p.of ≡ of) × (p.at ≡ k)

-- what is before m but not before the end of its bucket there is of no such bucket
row_done : (n : ℕ) (ps : List Predecessor) (of m end k : ℕ) → BucketEndsAt n (bucket_of n of) (take m ps) end → IsListed ps of end k → IsListed ps of m k
row_done n ps of m end k e h = go (cases_lt h.0 m)
  where
    go : (h.0 < m) ⊎ (m ≤ h.0) → IsListed ps of m k
    go (inl l) = absurd (e.none h.0 h.1 h.2 (taken_at ps m h.0 l ∙ h.3) (ap (bucket_of n) h.4))
    go (inr l) = (h.0, h.1, l, h.3, h.4, h.5)

pub below_end : (n r m end : ℕ) (ps : List Predecessor) → BucketEndsAt n r (take m ps) end → 0 < end → (end - 1 < m) × (end - 1 < length ps)
below_end n r m end ps e l =
    let w = slice_get_within (take m ps) (end - 1) (e.last (end - 1) (omega arith)).0 (e.last (end - 1) (omega arith)).1 in
    (omega (arith, w, length-take m ps), omega (arith, w, length-take m ps))

ends_within : (n r : ℕ) (ps : List Predecessor) (end : ℕ) → BucketEndsAt n r ps end → end ≤ length ps
ends_within n r ps zero e = omega arith
ends_within n r ps (suc k) e = let l = e.last k (omega arith) in omega (arith, slice_get_within ps k l.0 l.1)

-- from the last one of a bucket to the one before it
pub row_before : (p : Predecessors) (n of m end : ℕ) (x : Predecessor) → n ≡ length p.ends.items → AreBuckets p
    → BucketEndsAt n (bucket_of n of) (take m p.list.items) end
    → 0 < end → slice_get p.list.items (end - 1) ≡ Some x → BucketEndsAt n (bucket_of n of) (take (end - 1) p.list.items) x.before × (x.before < end)
row_before p n of m end x is a e l here =
    let last = e.last (end - 1) (omega arith) in
    let same = same_at p.list.items (end - 1) (end - 1) last.0 x
    (sym (taken_at p.list.items m (end - 1) (below_end n (bucket_of n of) m end p.list.items e l).0) ∙ last.1) here refl in
    let b = subst (λ n. BucketEndsAt n (bucket_of n x.of) (take (end - 1) p.list.items) x.before) (sym is) (a.before (end - 1) x here) in (
      subst (λ r. BucketEndsAt n r (take (end - 1) p.list.items) x.before) (sym (ap (λ (z : Predecessor). bucket_of n z.of) same) ∙ last.2) b,
      omega (arith, l, ends_within n (bucket_of n x.of) (take (end - 1) p.list.items) x.before b, length-take (end - 1) p.list.items),
    )

pub listed_more : (n : ℕ) (ps : List Predecessor) (of end k : ℕ) (x : Predecessor) → 0 < end → slice_get ps (end - 1) ≡ Some x
    → BucketEndsAt n (bucket_of n of) (take (end - 1) ps) x.before → x.before < end → (IsListed ps of end k ⊎ ((x.of ≡ of) × (x.at ≡ k)))
    ↔ IsListed ps of x.before k
listed_more n ps of end k x some here e less = (to, λ h. let d = row_done n ps of (end - 1) x.before k e h in from d (cases_lt d.0 end))
  where
    to : IsListed ps of end k ⊎ ((x.of ≡ of) × (x.at ≡ k)) → IsListed ps of x.before k
    to (inl h) = (h.0, h.1, omega (arith, h.2, less), h.3, h.4, h.5)
    to (inr h) = (end - 1, x, omega arith, here, h.0, h.1)

    from : (h : IsListed ps of (end - 1) k) → (h.0 < end) ⊎ (end ≤ h.0) → IsListed ps of end k ⊎ ((x.of ≡ of) × (x.at ≡ k))
    from h (inr l) = inl (h.0, h.1, l, h.3, h.4, h.5)
    from h (inl l) = inr (subst (λ (z : Predecessor). (z.of ≡ of) × (z.at ≡ k)) (same_at ps h.0 (end - 1) h.1 x h.3 here (omega (arith, l, h.2))) (h.4, h.5))

pub all_listed : (ps : List Predecessor) (of k : ℕ) → IsListed ps of 0 k ↔ HasBefore ps of k
all_listed ps of k = ((λ h. (h.1, has_at ps h.0 h.1 h.3, h.4, h.5)), λ h. let r = at_has ps h.0 h.1 in (r.0, h.0, omega arith, r.2, h.2, h.3))

-- ---- the pass

after_is : (o : Option Place) (n : ℕ) → one_after o ≡ Some n → (q : Place) × (o ≡ Some q) × (place_number q + 1 ≡ n)
after_is None n e = absurd (cc)
after_is (Some q) n e = (q, refl, let m = e in cc)

end_is : (l : Seen) (n : ℕ) → end_after l ≡ Some n → (n ≡ 0) × (l.fault ≡ None) × (l.next.next ≡ None) × (l.next.skip ≡ None)
end_is l n e = search rules

module _ (j : Job) (ls : List Seen) (are : AreLooks j ls) where
  shown : (k : ℕ) (l : Seen) → slice_get ls k ≡ Some l → (q : Place) → IsAmong l.next q ↔ Follows j l.place q
  shown k l e q = follows_exactly j l.place l.next (are l (has_at ls k l e)).next q

  -- what comes after a place: a successor, or the end
  comes : (k n : ℕ) (l : Seen) → slice_get ls k ≡ Some l → ComesAfter l n
      → ((q : Place) × Follows j l.place q × (place_number q + 1 ≡ n)) ⊎ ((n ≡ 0) × EndsTheProgram j l.place)
  comes k n l e (inr (inl h)) = let r = after_is l.next.next n h in inl (r.0, (shown k l e r.0).0 (inl r.1), r.2)
  comes k n l e (inr (inr h)) = let r = after_is l.next.skip n h in inl (r.0, (shown k l e r.0).0 (inr r.1), r.2)
  comes k n l e (inl h) = inr (r.0, record { clear = clear; last = λ q s. last q ((shown k l e q).1 (clear, s)) })
    where
      r : (n ≡ 0) × (l.fault ≡ None) × (l.next.next ≡ None) × (l.next.skip ≡ None)
      r = end_is l n h

      clear : IsClear j l.place
      clear = own_clear j l.place (subst (IsOwnFault j l.place) r.1 (are l (has_at ls k l e)).fault)

      last : (q : Place) → IsAmong l.next q → ⊥
      last q (inl s) = let m = r.2 in absurd (cc)
      last q (inr s) = let m = r.3 in absurd (cc)

  ended : (k : ℕ) (l : Seen) → slice_get ls k ≡ Some l → EndsTheProgram j l.place → ComesAfter l 0
  ended k l e x =
      let fault = clear_shows_none j l.place l.fault x.clear (are l (has_at ls k l e)).fault in
      let next = none l.next.next (λ q h. inl h) in
      let skip = none l.next.skip (λ q h. inr h) in
      inl (rw (fault, next, skip) refl)
    where
      none : (o : Option Place) → ((q : Place) → o ≡ Some q → IsAmong l.next q) → o ≡ None
      none None f = refl
      none (Some q) f = absurd (x.last q ((shown k l e q).0 (f q refl)).1)

  followed : (k : ℕ) (l : Seen) → slice_get ls k ≡ Some l → (q : Place) → Follows j l.place q → ComesAfter l (place_number q + 1)
  followed k l e q f = go ((shown k l e q).1 f)
    where
      go : IsAmong l.next q → ComesAfter l (place_number q + 1)
      go (inl h) = inr (inl (ap one_after h))
      go (inr h) = inr (inr (ap one_after h))

  -- what is found can end; and what comes before the end, or before the first i of those found, is found
  pub record Retraces (order : List ℕ) (i : ℕ) : Type 0 where
    pub within : i ≤ length order
    pub only : (k : ℕ) (l : Seen) → slice_get ls k ≡ Some l → Has order k → CanEnd j l.place
    pub first : (k : ℕ) → ComesBefore ls k 0 → Has order k
    pub closed : (m : ℕ) (l : Seen) → m < i → slice_get ls (get_or order m 0) ≡ Some l → (k : ℕ) → ComesBefore ls k (place_number l.place + 1) → Has order k

  module _ (before : List Predecessor) (preds : ArePredecessors ls (length ls) before) where
    listed : (n k : ℕ) → ComesBefore ls k n → HasBefore before n k
    listed n k b = preds.each k n (slice_get_within ls k b.0 b.1) b

    -- what the look k shows, which is before n
    at_look : (n k : ℕ) (l : Seen) → slice_get ls k ≡ Some l → HasBefore before n k → ComesAfter l n
    at_look n k l e h = let b = preds.only k n h in subst (λ x. ComesAfter x n) (same_at ls k k b.0 l b.1 e refl) b.2

    pub retraces_begin : (n : ℕ) (f g : FoundLooks) → f.order.items ≡ [] → FindsMore n (HasBefore before 0) f g → Retraces g.order.items 0
    retraces_begin n f g none more = record {
      within = omega arith;
      only = λ k l e h. only k l e ((more.found k).0 h);
      first = λ k b. (more.found k).1 (inr (listed 0 k b));
      closed = λ m l c. absurd (omega arith);
    }
      where
        ends : (l : Seen) → ((q : Place) × Follows j l.place q × (place_number q + 1 ≡ 0)) ⊎ (◌≡◌ {A = ℕ} 0 0 × EndsTheProgram j l.place) → CanEnd j l.place
        ends l (inl h) = absurd (omega (arith, h.2))
        ends l (inr h) = ([], h.1)

        only : (k : ℕ) (l : Seen) → slice_get ls k ≡ Some l → Has f.order.items k ⊎ HasBefore before 0 k → CanEnd j l.place
        only k l e (inl h) = absurd (subst (λ z. Has z k) none h)
        only k l e (inr h) = ends l (comes k 0 l e (at_look 0 k l e h))

    pub retraces_on : (n : ℕ) (f g : FoundLooks) (i : ℕ) (l : Seen) → i < length f.order.items → slice_get ls (get_or f.order.items i 0) ≡ Some l
        → FindsMore n (HasBefore before (place_number l.place + 1)) f g → Retraces f.order.items i → Retraces g.order.items (i + 1)
    retraces_on n f g i l here at more t = record {
      within = omega (arith, here, ap length more.order, length-append f.order.items more.more);
      only = λ k m e h. only k m e ((more.found k).0 h);
      first = λ k b. (more.found k).1 (inl (t.first k b));
      closed = λ o m c e k b.
          closed o m c (cases_lt o i) (ap (λ z. get_or z o 0) more.order ∙ get_or_append_left f.order.items more.more 0 o (omega (arith, c, here))) e k b;
    }
      where
        goes_on : (m : Seen) → ((q : Place) × Follows j m.place q × (place_number q + 1 ≡ place_number l.place + 1))
            ⊎ ((place_number l.place + 1 ≡ 0) × EndsTheProgram j m.place) → CanEnd j m.place
        goes_on m (inl h) =
            let can = t.only (get_or f.order.items i 0) l at (has_get f.order.items i here) in
            (l.place ∷ can.0, (subst (λ z. Follows j m.place z) (same_number h.0 l.place (omega (arith, h.2))) h.1, can.1))
        goes_on m (inr h) = absurd (omega (arith, h.0))

        only : (k : ℕ) (m : Seen) → slice_get ls k ≡ Some m → Has f.order.items k ⊎ HasBefore before (place_number l.place + 1) k → CanEnd j m.place
        only k m e (inl h) = t.only k m e h
        only k m e (inr h) = goes_on m (comes k (place_number l.place + 1) m e (at_look (place_number l.place + 1) k m e h))

        closed : (o : ℕ) (m : Seen) → o < i + 1 → (o < i) ⊎ (i ≤ o) → get_or g.order.items o 0 ≡ get_or f.order.items o 0
            → slice_get ls (get_or g.order.items o 0) ≡ Some m → (k : ℕ) → ComesBefore ls k (place_number m.place + 1) → Has g.order.items k
        closed o m c (inl d) was e k b = (more.found k).1 (inl (t.closed o m d (sym (ap (slice_get ls) was) ∙ e) k b))
        closed o m c (inr d) was e k b =
            let is : o ≡ i = omega arith in
            let same = same_at ls (get_or g.order.items o 0) (get_or f.order.items i 0) m l e at (was ∙ ap (λ z. get_or f.order.items z 0) is) in
            (more.found k).1 (inr (listed (place_number l.place + 1) k (subst (λ (z : Seen). ComesBefore ls k (place_number z.place + 1)) same b)))

  pub retraced : AreReached j (places_of_looks ls) → (n : ℕ) (f : FoundLooks) (i : ℕ) → MarksFound n f → length f.order.items ≤ i
      → Retraces f.order.items i → (k : ℕ) (p : Place) → slice_get (places_of_looks ls) k ≡ Some p → (get_or f.marks.items k false ≡ true) ↔ CanEnd j p
  retraced reached n f i m all t k p e = (
    (λ h. let l = look_there ls k p e in subst (CanEnd j) l.2 (t.only k l.0 l.1 ((m.agrees k).0 h))),
    λ can. (m.agrees k).1 (go can.0 k p e can.1),
  )
    where
      go : (on : List Place) (k : ℕ) (p : Place) → slice_get (places_of_looks ls) k ≡ Some p → EndsAfter j p on → Has f.order.items k
      go [] k p e x = let l = look_there ls k p e in t.first k (l.0, l.1, ended k l.0 l.1 (subst (EndsTheProgram j) (sym l.2) x))
      go (q ∷ on) k p e x =
          let l = look_there ls k p e in
          let way = reached.1 p (has_at (places_of_looks ls) k p e) in
          let b = at_has (places_of_looks ls) q (reached.0 q (p ∷ way.0, (way.1, x.0.0, x.0.1))) in
          let m = look_there ls b.0 q b.2 in
          let o = at_has f.order.items b.0 (go on b.0 q b.2 x.1) in
          let is = get_or_from_slice_get f.order.items o.0 b.0 0 o.2 in
          let after = followed k l.0 l.1 q (subst (λ z. Follows j z q) (sym l.2) x.0) in
          t.closed o.0 m.0 (omega (arith, all, o.1)) (ap (slice_get ls) is ∙ m.1) k (l.0, l.1, subst (λ z. ComesAfter l.0 (place_number z + 1)) (sym m.2) after)

-- ---- the first one left

first_same : (P Q : Place → Type 0) (o : Option Place) → ((p : Place) → P p → Q p) → ((p : Place) → Q p → P p) → IsFirstPlace P o → IsFirstPlace Q o
first_same P Q None to back h = λ p q. h p (back p q)
first_same P Q (Some a) to back h = (to a h.0, λ p q. h.1 p (back p q))

first_more : (P Q : Place → Type 0) (o : Option Place) (q r : Place) → IsEarlier o q r → ((p : Place) → P p → Q p)
    → Q q → ((p : Place) → Q p → P p ⊎ (q ≡ p)) → IsFirstPlace P o → IsFirstPlace Q (Some r)
first_more P Q None q r e to here split h = (subst Q (sym e) here, λ p m. go p (split p m))
  where
    go : (p : Place) → P p ⊎ (q ≡ p) → place_number r ≤ place_number p
    go p (inl x) = absurd (h p x)
    go p (inr x) = omega (arith, ap place_number e, ap place_number x)
first_more P Q (Some a) q r e to here split h = (held e.0, λ p m. go p (split p m))
  where
    held : (r ≡ a) ⊎ (r ≡ q) → Q r
    held (inl x) = subst Q (sym x) (to a h.0)
    held (inr x) = subst Q (sym x) here

    go : (p : Place) → P p ⊎ (q ≡ p) → place_number r ≤ place_number p
    go p (inl x) = omega (arith, e.1, h.1 p x)
    go p (inr x) = omega (arith, e.2, ap place_number x)

module _ (ps : List Place) (marks : List Bool) (i : ℕ) (o : Option Place) (h : IsFirstPlace (IsLeftUnmarked ps marks i) o) where
  keeps : (p : Place) → IsLeftUnmarked ps marks i p → IsLeftUnmarked ps marks (i + 1) p
  keeps p l = (l.0, omega (arith, l.1), l.2, l.3)

  pub left_marked : get_or marks i false ≡ true → IsFirstPlace (IsLeftUnmarked ps marks (i + 1)) o
  left_marked on = first_same (IsLeftUnmarked ps marks i) (IsLeftUnmarked ps marks (i + 1)) o keeps (λ p l. back p l (cases_lt l.0 i)) h
    where
      back : (p : Place) (l : IsLeftUnmarked ps marks (i + 1) p) → (l.0 < i) ⊎ (i ≤ l.0) → IsLeftUnmarked ps marks i p
      back p l (inl c) = (l.0, c, l.2, l.3)
      back p l (inr c) = let e : i ≡ l.0 = omega (arith, l.1) in absurd (both_ways _ (ap (λ z. get_or marks z false) e ∙ l.3) on)

  pub left_more : (q r : Place) → slice_get ps i ≡ Some q → get_or marks i false ≡ false → IsEarlier o q r
      → IsFirstPlace (IsLeftUnmarked ps marks (i + 1)) (Some r)
  left_more q r here off e =
      first_more (IsLeftUnmarked ps marks i) (IsLeftUnmarked ps marks (i + 1)) o q r e keeps (i, omega arith, here, off) (λ p l. split p l (cases_lt l.0 i)) h
    where
      split : (p : Place) (l : IsLeftUnmarked ps marks (i + 1) p) → (l.0 < i) ⊎ (i ≤ l.0) → IsLeftUnmarked ps marks i p ⊎ (q ≡ p)
      split p l (inl c) = inl (l.0, c, l.2, l.3)
      split p l (inr c) =
          let d : i ≡ l.0 = omega (arith, l.1) in
          let there : Some q ≡ Some p = sym here ∙ ap (slice_get ps) d ∙ l.2 in
          let same : q ≡ p = cc in
          inr same

pub first_hang : (j : Job) (ls : List Seen) (marks : List Bool) (o : Option Place) → AreReached j (places_of_looks ls)
    → ((k : ℕ) (p : Place) → slice_get (places_of_looks ls) k ≡ Some p → (get_or marks k false ≡ true) ↔ CanEnd j p)
    → IsFirstPlace (IsLeftUnmarked (places_of_looks ls) marks (length ls)) o → IsFirstPlace (MayHang j) o
first_hang j ls marks o reached each h =
    first_same (IsLeftUnmarked (places_of_looks ls) marks (length ls)) (MayHang j) o
    (λ p l. (reached.1 p (has_at (places_of_looks ls) l.0 p l.2), λ can. both_ways _ l.3 ((each l.0 p l.2).1 can))) from h
  where
    from : (p : Place) → MayHang j p → IsLeftUnmarked (places_of_looks ls) marks (length ls) p
    from p m =
        let k = at_has (places_of_looks ls) p (reached.0 p m.0) in
        (k.0, omega (arith, k.1, number_of_places ls), k.2, false_from_ne_true _ (λ e. m.1 ((each k.0 p k.2).0 e)))
