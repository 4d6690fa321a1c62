-- From which place each place was found: the path back is the shortest, and the one that goes to next.
use Rattle.chan_walk.proofs.Names.{[], AddsPlace, ap, AreDistinct, AreSuccessors, arith, cases_lt, first_place, Follows, get_or-append, Has, HasFault, inl, inr, IsAmong, IsPath, IsReachable, IsTraced, Job, length, length-append, List, Next, None, Option, Place, Reason, refl, rules, slice_index, Some, subst, suc, sym, zero, ℕ, ◌++◌, ◌+◌, ◌<◌, ◌∙◌, ◌∷◌, ◌≡◌, ◌≤◌, ◌⊎◌}
use Rattle.std.specs.List.{slice_get}
use Rattle.chan_walk.specs.Paths.{IsNext, IsSkip, IsFirstOf}
use Rattle.chan_walk.specs.Walk.{AreSiblings, IsBestPath, IsFoundBy, IsFoundFrom}
use Rattle.chan_walk.proofs.Theory.Faults.{fault_exists}
use Rattle.chan_walk.proofs.Theory.Lists.{has_at, at_has}
use Rattle.chan_walk.proofs.Algorithms.Walking.{follows_exactly, slice_get-append}
use Rattle.std.proofs.Math.Seq.{get_or-append_seam}
use Rattle.std.proofs.lemmas.Option.{slice_get_within}

-- ---- lists by their index

get_last : (ps : List Place) (q : Place) (k : ℕ) → k ≡ length ps → slice_get (ps ++ q ∷ []) k ≡ Some q
get_last [] q zero e = refl
get_last [] q (suc k) e = absurd (omega arith)
get_last (p ∷ ps) q zero e = absurd (omega arith)
get_last (p ∷ ps) q (suc k) e = get_last ps q k (omega arith)

index_old : (fs : List ℕ) (x k : ℕ) → k < length fs → slice_index (fs ++ x ∷ []) k ≡ slice_index fs k
index_old fs x k h = get_or-append fs (x ∷ []) 0 k h

index_last : (fs : List ℕ) (x k : ℕ) → k ≡ length fs → slice_index (fs ++ x ∷ []) k ≡ x
index_last fs x k e = ap (slice_index (fs ++ x ∷ [])) e ∙ get_or-append_seam fs x [] 0

pub same_index : (ps : List Place) (p : Place) (k l : ℕ) → AreDistinct ps → slice_get ps k ≡ Some p → slice_get ps l ≡ Some p → k ≡ l
same_index [] p k l a e f = absurd (cc)
same_index (q ∷ ps) p zero zero a e f = refl
same_index (q ∷ ps) p zero (suc l) a e f = let same : q ≡ p = cc in absurd (a.0 (subst (Has ps) (sym same) (has_at ps l p f)))
same_index (q ∷ ps) p (suc k) zero a e f = let same : q ≡ p = cc in absurd (a.0 (subst (Has ps) (sym same) (has_at ps k p e)))
same_index (q ∷ ps) p (suc k) (suc l) a e f = ap suc (same_index ps p k l a.1 e f)

-- ---- one place more

found_push : (ps : List Place) (fs : List ℕ) (q r : Place) (x k : ℕ) → length fs ≡ length ps → IsFoundBy ps fs k q → IsFoundBy (ps ++ r ∷ []) (fs ++ x ∷ []) k q
found_push ps fs q r x k same f =
    let within = slice_get_within ps f.0 q f.1 in
    (f.0, slice_get-append ps (r ∷ []) f.0 within ∙ f.1, λ h. subst (λ n. n ≤ k) (sym (index_old fs x f.0 (omega arith))) (f.2 h))

module _ (j : Job) (ps : List Place) (fs : List ℕ) (i : ℕ) (p q : Place)
    (t : IsTraced j ps fs i (i + 1)) (there : slice_get ps i ≡ Some p) (follows : Follows j p q)
    (elder : (k : ℕ) (s : Place) → 0 < k → slice_get ps k ≡ Some s → slice_index fs k ≡ i → IsNext j p s × IsSkip j p q) where
  abbrev more : List Place
  more = ps ++ q ∷ []

  abbrev from_more : List ℕ
  from_more = fs ++ i ∷ []

  length-more : length more ≡ length ps + 1
  length-more = length-append ps (q ∷ [])

  old : (k : ℕ) → k < length ps → slice_index from_more k ≡ slice_index fs k
  old k h = index_old fs i k (omega (arith, t.each))

  new : slice_index from_more (length ps) ≡ i
  new = index_last fs i (length ps) (sym t.each)

  within : i < length ps
  within = slice_get_within ps i p there

  there' : slice_get more i ≡ Some p
  there' = slice_get-append ps (q ∷ []) i within ∙ there

  from : (k : ℕ) → 0 < k → k < length more → (k < length ps) ⊎ (length ps ≤ k) → IsFoundFrom j more from_more (i + 1) k
  from k h l (inl b) =
      let r = t.from k h b in
      let e = old k b in
      let earlier = r.earlier in
      let among = r.among in
      record {
        parent = r.parent;
        child = r.child;
        there = ap (slice_get more) e ∙ slice_get-append ps (q ∷ []) (slice_index fs k) (omega arith) ∙ r.there;
        here = slice_get-append ps (q ∷ []) k b ∙ r.here;
        follows = r.follows;
        earlier = omega arith;
        among = omega arith;
      }
  from k h l (inr b) =
      let at : k ≡ length ps = omega (arith, length-more) in
      let e : slice_index from_more k ≡ i = ap (slice_index from_more) at ∙ new in
      record {
        parent = p;
        child = q;
        there = ap (slice_get more) e ∙ there';
        here = get_last ps q k at;
        follows = follows;
        earlier = omega (arith, within);
        among = omega arith;
      }

  upto : (k : ℕ) → 0 < k → k < length ps → slice_index from_more k ≤ i
  upto k h b = let e = old k b in let a = (t.from k h b).among in omega arith

  rising : (k l : ℕ) → 0 < k → k ≤ l → l < length more → (l < length ps) ⊎ (length ps ≤ l)
      → (k < length ps) ⊎ (length ps ≤ k) → slice_index from_more k ≤ slice_index from_more l
  rising k l h o b (inl c) d = let e = old k (omega arith) in let f = old l c in let r = t.rising k l h o c in omega arith
  rising k l h o b (inr c) (inl d) =
      let at : l ≡ length ps = omega (arith, length-more) in
      let e : slice_index from_more l ≡ i = ap (slice_index from_more) at ∙ new in
      let u = upto k h d in
      omega arith
  rising k l h o b (inr c) (inr d) =
      let at : k ≡ l = omega (arith, length-more) in
      subst (λ z. slice_index from_more k ≤ slice_index from_more z) at (omega arith)

  siblings : (k l : ℕ) → 0 < k → k < l → l < length more → slice_index from_more k ≡ slice_index from_more l
      → (l < length ps) ⊎ (length ps ≤ l) → AreSiblings j more (slice_index from_more k) k l
  siblings k l h o b e (inl c) =
      let f = old k (omega arith) in
      let r = t.siblings k l h o c (sym f ∙ e ∙ old l c) in
      record {
        parent = r.parent;
        elder = r.elder;
        younger = r.younger;
        there = ap (slice_get more) f ∙ slice_get-append ps (q ∷ []) (slice_index fs k) (slice_get_within ps (slice_index fs k) r.parent r.there) ∙ r.there;
        one = slice_get-append ps (q ∷ []) k (omega arith) ∙ r.one;
        other = slice_get-append ps (q ∷ []) l c ∙ r.other;
        next = r.next;
        skip = r.skip;
      }
  siblings k l h o b e (inr c) =
      let at : l ≡ length ps = omega (arith, length-more) in
      let d : slice_index from_more l ≡ i = ap (slice_index from_more) at ∙ new in
      let low : k < length ps = omega arith in
      let r = t.from k h low in
      let both = elder k r.child h r.here (sym (old k low) ∙ e ∙ d) in
      record {
        parent = p;
        elder = r.child;
        younger = q;
        there = ap (slice_get more) (e ∙ d) ∙ there';
        one = slice_get-append ps (q ∷ []) k low ∙ r.here;
        other = get_last ps q l at;
        next = both.0;
        skip = both.1;
      }

  pub traced_push : IsTraced j (ps ++ q ∷ []) (fs ++ i ∷ []) i (i + 1)
  traced_push = record {
    each = omega (arith, length-append ps (q ∷ []), length-append fs (i ∷ []), t.each);
    begins = slice_get-append ps (q ∷ []) 0 (omega (arith, within)) ∙ t.begins;
    from = λ k h l. from k h l (cases_lt k (length ps));
    rising = λ k l h o b. rising k l h o b (cases_lt l (length ps)) (cases_lt k (length ps));
    siblings = λ k l h o b e. siblings k l h o b e (cases_lt l (length ps));
    found = λ k a s h e f.
        let w = slice_get_within more k a e in
        let low : k < length ps = omega (arith, within) in
        found_push ps fs s q i k t.each (t.found k a s h (sym (slice_get-append ps (q ∷ []) k low) ∙ e) f);
  }

-- ---- the successors of the place at i

traced_more : (j : Job) (ps : List Place) (fs : List ℕ) (i : ℕ) → IsTraced j ps fs i i → IsTraced j ps fs i (i + 1)
traced_more j ps fs i t = record {
  each = t.each;
  begins = t.begins;
  from = λ k h l.
      let r = t.from k h l in
      let a = r.among in
      record { parent = r.parent; child = r.child; there = r.there; here = r.here; follows = r.follows; earlier = r.earlier; among = omega arith };
  rising = t.rising;
  siblings = t.siblings;
  found = t.found;
}

-- a place that follows by next, or by skip
by_next : (j : Job) (p : Place) (n : Next) (q : Place) → AreSuccessors j p n → n.next ≡ Some q → IsNext j p q
by_next j p n q are e = go (fault_exists j p)
  where
    go : (r : Option Reason) × HasFault j p r → IsNext j p q
    go (None, f) = sym (are.next f) ∙ e
    go (Some r, f) = let none = (are.faulty r f).0 in absurd (cc)

by_skip : (j : Job) (p : Place) (n : Next) (q : Place) → AreSuccessors j p n → n.skip ≡ Some q → IsSkip j p q
by_skip j p n q are e = go (fault_exists j p)
  where
    go : (r : Option Reason) × HasFault j p r → IsSkip j p q
    go (None, f) = sym (are.skip f) ∙ e
    go (Some r, f) = let none = (are.faulty r f).1 in absurd (cc)

-- the next place is found
record HasNext (j : Job) (p : Place) (n : Next) (i : ℕ) (qs : List Place) (gs : List ℕ) : Type 0 where
  traced : IsTraced j qs gs i (i + 1)
  there : slice_get qs i ≡ Some p
  only : (k : ℕ) (s : Place) → 0 < k → slice_get qs k ≡ Some s → slice_index gs k ≡ i → n.next ≡ Some s
  has : (q : Place) → n.next ≡ Some q → IsFoundBy qs gs i q

-- and the one skipped to
record HasBoth (j : Job) (p : Place) (n : Next) (i : ℕ) (rs : List Place) (hs : List ℕ) : Type 0 where
  traced : IsTraced j rs hs i (i + 1)
  there : slice_get rs i ≡ Some p
  has : (q : Place) → IsAmong n q → IsFoundBy rs hs i q

module _ (j : Job) (p : Place) (n : Next) (i : ℕ) (are : AreSuccessors j p n) where
  found_before : (ps : List Place) (fs : List ℕ) → IsTraced j ps fs i (i + 1) → (q : Place) → Has ps q → IsFoundBy ps fs i q
  found_before ps fs t q h = let a = at_has ps q h in (a.0, a.2, λ z. let m = (t.from a.0 z a.1).among in omega arith)

  next_found : (l : ℕ) (ps qs : List Place) (fs gs : List ℕ) → IsTraced j ps fs i i → slice_get ps i ≡ Some p
      → (o : Option Place) → n.next ≡ o → AddsPlace l o i ps qs fs gs → HasNext j p n i qs gs
  next_found l ps qs fs gs t there o e a = go o e a
    where
      none : (k : ℕ) (s : Place) → 0 < k → slice_get ps k ≡ Some s → slice_index fs k ≡ i → ⊥
      none k s h g f = let m = (t.from k h (slice_get_within ps k s g)).among in omega arith

      same : ((q : Place) → n.next ≡ Some q → IsFoundBy ps fs i q) → HasNext j p n i ps fs
      same has = record { traced = traced_more j ps fs i t; there = there; only = λ k s h g f. absurd (none k s h g f); has = has }

      moved : qs ≡ ps → gs ≡ fs → HasNext j p n i ps fs → HasNext j p n i qs gs
      moved d f h = subst (λ z. HasNext j p n i z gs) (sym d) (subst (λ z. HasNext j p n i ps z) (sym f) h)

      go : (o : Option Place) → n.next ≡ o → AddsPlace l o i ps qs fs gs → HasNext j p n i qs gs
      go None e a = moved a.0 a.1 (same (λ q g. absurd (cc)))
      go (Some q) e (inl a) = moved a.1 a.2 (same (λ r g. let d : q ≡ r = cc in found_before ps fs (traced_more j ps fs i t) r (subst (Has ps) d a.0)))
      go (Some q) e (inr a) = subst (λ z. HasNext j p n i z gs) (sym a.1) (subst (λ z. HasNext j p n i (ps ++ q ∷ []) z) (sym a.3) more)
        where
          t' : IsTraced j ps fs i (i + 1)
          t' = traced_more j ps fs i t

          follows : Follows j p q
          follows = (follows_exactly j p n are q).0 (inl e)

          only : (k : ℕ) (s : Place) → 0 < k → slice_get (ps ++ q ∷ []) k ≡ Some s
              → slice_index (fs ++ i ∷ []) k ≡ i → (k < length ps) ⊎ (length ps ≤ k) → n.next ≡ Some s
          only k s h g f (inl b) = absurd (none k s h (sym (slice_get-append ps (q ∷ []) k b) ∙ g) (sym (index_old fs i k (omega (arith, t.each))) ∙ f))
          only k s h g f (inr b) =
              let w = slice_get_within (ps ++ q ∷ []) k s g in
              let last = get_last ps q k (omega (arith, length-append ps (q ∷ []))) in
              e ∙ sym last ∙ g

          more : HasNext j p n i (ps ++ q ∷ []) (fs ++ i ∷ [])
          more = record {
            traced = traced_push j ps fs i p q t' there follows (λ k s h g f. absurd (none k s h g f));
            there = slice_get-append ps (q ∷ []) i (slice_get_within ps i p there) ∙ there;
            only = λ k s h g f. only k s h g f (cases_lt k (length ps));
            has = λ r g.
                let d : q ≡ r = cc in
                (length ps, get_last ps q (length ps) refl ∙ ap Some d, λ z. let m = index_last fs i (length ps) (sym t.each) in omega arith);
          }

  skip_found : (l : ℕ) (qs rs : List Place) (gs hs : List ℕ) → HasNext j p n i qs gs
      → (o : Option Place) → n.skip ≡ o → AddsPlace l o i qs rs gs hs → HasBoth j p n i rs hs
  skip_found l qs rs gs hs m o e a = go o e a
    where
      same : ((q : Place) → n.skip ≡ Some q → IsFoundBy qs gs i q) → HasBoth j p n i qs gs
      same has = record { traced = m.traced; there = m.there; has = λ q. each q }
        where
          each : (q : Place) → IsAmong n q → IsFoundBy qs gs i q
          each q (inl g) = m.has q g
          each q (inr g) = has q g

      moved : rs ≡ qs → hs ≡ gs → HasBoth j p n i qs gs → HasBoth j p n i rs hs
      moved d f h = subst (λ z. HasBoth j p n i z hs) (sym d) (subst (λ z. HasBoth j p n i qs z) (sym f) h)

      go : (o : Option Place) → n.skip ≡ o → AddsPlace l o i qs rs gs hs → HasBoth j p n i rs hs
      go None e a = moved a.0 a.1 (same (λ q g. absurd (cc)))
      go (Some q) e (inl a) = moved a.1 a.2 (same (λ r g. let d : q ≡ r = cc in found_before qs gs m.traced r (subst (Has qs) d a.0)))
      go (Some q) e (inr a) = subst (λ z. HasBoth j p n i z hs) (sym a.1) (subst (λ z. HasBoth j p n i (qs ++ q ∷ []) z) (sym a.3) more)
        where
          follows : Follows j p q
          follows = (follows_exactly j p n are q).0 (inr e)

          each : (r : Place) → IsAmong n r → IsFoundBy (qs ++ q ∷ []) (gs ++ i ∷ []) i r
          each r (inl g) = found_push qs gs r q i i m.traced.each (m.has r g)
          each r (inr g) =
              let d : q ≡ r = cc in
              (length qs, get_last qs q (length qs) refl ∙ ap Some d, λ z. let k = index_last gs i (length qs) (sym m.traced.each) in omega arith)

          more : HasBoth j p n i (qs ++ q ∷ []) (gs ++ i ∷ [])
          more = record {
            traced = traced_push j qs gs i p q m.traced m.there follows (λ k s h g f. (by_next j p n s are (m.only k s h g f), by_skip j p n q are e));
            there = slice_get-append qs (q ∷ []) i (slice_get_within qs i p m.there) ∙ m.there;
            has = each;
          }

  both_traced : (rs : List Place) (hs : List ℕ) → HasBoth j p n i rs hs → IsTraced j rs hs (i + 1) (i + 1)
  both_traced rs hs b = record {
    each = b.traced.each;
    begins = b.traced.begins;
    from = b.traced.from;
    rising = b.traced.rising;
    siblings = b.traced.siblings;
    found = λ k a q h e f. found k a q h e f (cases_lt k i);
  }
    where
      found : (k : ℕ) (a q : Place) → k < i + 1 → slice_get rs k ≡ Some a → Follows j a q → (k < i) ⊎ (i ≤ k) → IsFoundBy rs hs k q
      found k a q h e f (inl l) = b.traced.found k a q l e f
      found k a q h e f (inr l) =
          let at : i ≡ k = omega arith in
          let d : ◌≡◌ {A = Option Place} (Some p) (Some a) = sym b.there ∙ ap (slice_get rs) at ∙ e in
          let same : p ≡ a = cc in
          subst (λ z. IsFoundBy rs hs z q) at (b.has q ((follows_exactly j p n are q).1 (subst (λ z. Follows j z q) (sym same) f)))

  pub traced_on : (l : ℕ) (ps qs rs : List Place) (fs gs hs : List ℕ) → IsTraced j ps fs i i → slice_get ps i ≡ Some p
      → AddsPlace l n.next i ps qs fs gs → AddsPlace l n.skip i qs rs gs hs → IsTraced j rs hs (i + 1) (i + 1)
  traced_on l ps qs rs fs gs hs t there a b = both_traced rs hs (skip_found l qs rs gs hs (next_found l ps qs fs gs t there n.next refl a) n.skip refl b)

-- ---- the path back

module _ (j : Job) (ps : List Place) (fs : List ℕ) (i : ℕ) (t : IsTraced j ps fs i i)
    (all : length ps ≤ i) (distinct : AreDistinct ps) (found : (p : Place) → IsReachable j p → Has ps p) where
  pub best_first : IsBestPath j ps 0 (first_place j) []
  best_first = search rules

  pub best_next : (k : ℕ) (c p : Place) (rest : List Place) → 0 < k → slice_get ps k ≡ Some c
      → IsBestPath j ps (slice_index fs k) p rest → IsBestPath j ps k c (p ∷ rest)
  best_next k c p rest pos here b = record { here = here; path = (b.path, follows.0, follows.1); first = λ l q qs h e f. first l q qs h e f }
    where
      low : k < length ps
      low = slice_get_within ps k c here

      r : IsFoundFrom j ps fs i k
      r = t.from k pos low

      follows : Follows j p c
      follows =
          let d : ◌≡◌ {A = Option Place} (Some r.parent) (Some p) = sym r.there ∙ b.here in
          let e : ◌≡◌ {A = Option Place} (Some r.child) (Some c) = sym r.here ∙ here in
          let same : r.parent ≡ p = cc in
          let also : r.child ≡ c = cc in
          subst (λ z. Follows j z c) same (subst (λ z. Follows j r.parent z) also r.follows)

      meet : (l m : ℕ) (q x : Place) (qs : List Place) → k ≤ l → slice_get ps l ≡ Some q → slice_get ps m ≡ Some x
          → slice_index fs l ≤ m → IsFirstOf j (p ∷ rest) (x ∷ qs) → IsFirstOf j (c ∷ p ∷ rest) (q ∷ x ∷ qs)
      meet l m q x qs h e a o (inl s) = inl (omega arith)
      meet l m q x qs h e a o (inr (n, inr s)) = inr (ap suc n, inr (inl s))
      meet l m q x qs h e a o (inr (n, inl s)) = go (cases_lt k l)
        where
          same : p ≡ x
          same = cc

          at : slice_index fs k ≡ m
          at = same_index ps x (slice_index fs k) m distinct (b.here ∙ ap Some same) a

          go : (k < l) ⊎ (l ≤ k) → IsFirstOf j (c ∷ p ∷ rest) (q ∷ x ∷ qs)
          go (inr le) =
              let eq : k ≡ l = omega arith in
              let d : ◌≡◌ {A = Option Place} (Some c) (Some q) = sym here ∙ ap (slice_get ps) eq ∙ e in
              let one : c ≡ q = cc in
              inr (ap suc n, inl (ap (λ z. z ∷ p ∷ rest) one ∙ ap (λ z. q ∷ z) s))
          go (inl lt) =
              let up = t.rising k l pos h (slice_get_within ps l q e) in
              let z = t.siblings k l pos lt (slice_get_within ps l q e) (omega (arith, at, up, o)) in
              let d : ◌≡◌ {A = Option Place} (Some z.parent) (Some p) = sym z.there ∙ b.here in
              let f : ◌≡◌ {A = Option Place} (Some z.elder) (Some c) = sym z.one ∙ here in
              let g : ◌≡◌ {A = Option Place} (Some z.younger) (Some q) = sym z.other ∙ e in
              let dp : z.parent ≡ p = cc in
              let dc : z.elder ≡ c = cc in
              let dq : z.younger ≡ q = cc in
              let next : IsNext j p c = subst (λ a. IsNext j a c) dp (subst (λ a. IsNext j z.parent a) dc z.next) in
              let skip : IsSkip j p q = subst (λ a. IsSkip j a q) dp (subst (λ a. IsSkip j z.parent a) dq z.skip) in
              inr (ap suc n, inr (inr (s, next, skip)))

      first : (l : ℕ) (q : Place) (qs : List Place) → k ≤ l → slice_get ps l ≡ Some q → IsPath j (q ∷ qs) → IsFirstOf j (c ∷ p ∷ rest) (q ∷ qs)
      first l q [] h e f = let z = same_index ps (first_place j) l 0 distinct (e ∙ ap Some f) t.begins in absurd (omega arith)
      first l q (x ∷ qs) h e f =
          let a = at_has ps x (found x (qs, f.0)) in
          let by = t.found a.0 x q (omega (arith, a.1)) a.2 (f.1, f.2) in
          let same = same_index ps q by.0 l distinct by.1 e in
          let lo : slice_index fs l ≤ a.0 = subst (λ z. slice_index fs z ≤ a.0) same (by.2 (omega arith)) in
          let up = t.rising k l pos h (slice_get_within ps l q e) in
          meet l a.0 q x qs h e a.2 lo (b.first a.0 x qs (omega arith) a.2 f.0)
