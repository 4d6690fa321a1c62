-- Indexes of what a walk has looked at.
use Rattle.chan_why.proofs.Names.{[], ap, AreDistinct, AreLooks, argument_seen, arith, at_has, cases_eq, cases_lt, get_or, Has, has_at, HasLikeOffence, inl, inr, IsArgumentByteOf, IsFirstWhere, IsIndex, IsLeastOf, IsLeastOrNone, IsOfKind, IsSome, Job, length, List, nat_cmp, None, number_of_places, Offence, offence, Option, Place, places_of_looks, Reason, refl, rules, Seen, slice_get, slice_get-get_or, slice_get_within, Some, subst, suc, sym, TakesByte, TakesSoFar, zero, ℕ, ◌+◌, ◌<◌, ◌↔◌, ◌∙◌, ◌∷◌, ◌≡◌, ◌≤◌, ◌⊎◌}
use Rattle.std.proofs.Common.{◌*◌}
use Rattle.std.specs.BTreeMap.{BTreeMap}
use Rattle.std.specs.BTreeMap as tree
use Rattle.chan_why.specs.Finder.{IsLesserOf, KeepsLeast, kind_number}
use Rattle.chan_walk.specs.PlaceTable.{IsIndexOf}
use Rattle.chan_walk.specs.Reason.{number_of}
use Rattle.chan_walk.proofs.Algorithms.Tracing.{same_index}
use Rattle.chan_walk.proofs.Algorithms.Walking.{place_there}
use Rattle.chan_areas.proofs.Gaps.{least_same}

-- ---- one more

-- the least of what was known of a key, and of the one that is noted
least_noted : (P : ℕ → Type 0) (at n : ℕ) (o : Option ℕ) → IsLeastOrNone P o
    → IsLesserOf o at n → (Q : ℕ → Type 0) → ((a : ℕ) → Q a ↔ (P a ⊎ (a ≡ at))) → IsLeastOf Q n
least_noted P at n None none is Q q = (subst Q (sym is) ((q at).1 (inr refl)), λ a h. from a ((q a).0 h))
  where
    from : (a : ℕ) → P a ⊎ (a ≡ at) → n ≤ a
    from a (inl p) = absurd (none a p)
    from a (inr e) = omega (arith, is, e)
least_noted P at n (Some b) old is Q q = (held (cases_lt at b), λ a h. from a ((q a).0 h))
  where
    held : (at < b) ⊎ (b ≤ at) → Q n
    held (inl h) = let e : n ≡ at = omega (arith, is) in subst Q (sym e) ((q at).1 (inr refl))
    held (inr h) = let e : n ≡ b = omega (arith, is) in subst Q (sym e) ((q b).1 (inl old.0))

    from : (a : ℕ) → P a ⊎ (a ≡ at) → n ≤ a
    from a (inl p) = let l = old.1 a p in omega (arith, is)
    from a (inr e) = omega (arith, is, e)

-- an index with one more look that has a key
pub note_more : (H G : ℕ → ℕ → Type 0) (key at : ℕ) (old new : BTreeMap ℕ ℕ)
    → ((k a : ℕ) → G k a ↔ (H k a ⊎ ((k ≡ key) × (a ≡ at)))) → IsIndex H old → KeepsLeast key at old new → IsIndex G new
note_more H G key at old new more h n k = go (cases_eq k key)
  where
    go : (k ≡ key) ⊎ (k ≡ key → ⊥) → IsLeastOrNone (G k) (tree.get nat_cmp new k)
    go (inl e) =
        let least = least_noted (H k) at n.least (tree.get nat_cmp old k) (h k)
        (subst (λ z. IsLesserOf (tree.get nat_cmp old z) at n.least) (sym e) n.lesser) (G k)
        (λ a. (λ g. both a ((more k a).0 g), back a)) in
        subst (IsLeastOrNone (G k)) (sym (ap (tree.get nat_cmp new) e ∙ n.noted)) least
      where
        both : (a : ℕ) → H k a ⊎ ((k ≡ key) × (a ≡ at)) → H k a ⊎ (a ≡ at)
        both a (inl x) = inl x
        both a (inr x) = inr x.1

        back : (a : ℕ) → H k a ⊎ (a ≡ at) → G k a
        back a (inl x) = (more k a).1 (inl x)
        back a (inr x) = (more k a).1 (inr (e, x))
    go (inr d) =
        subst (IsLeastOrNone (G k)) (sym (n.others k d))
        (least_same (H k) (G k) (tree.get nat_cmp old k) (λ a x. (more k a).1 (inl x)) (λ a g. only a ((more k a).0 g)) (h k))
      where
        only : (a : ℕ) → H k a ⊎ ((k ≡ key) × (a ≡ at)) → H k a
        only a (inl x) = x
        only a (inr x) = absurd (d x.0)

pub same_keys : (H G : ℕ → ℕ → Type 0) (m : BTreeMap ℕ ℕ) → ((k a : ℕ) → H k a ↔ G k a) → IsIndex H m → IsIndex G m
same_keys H G m e h k = least_same (H k) (G k) (tree.get nat_cmp m k) (λ a. (e k a).0) (λ a. (e k a).1) (h k)

-- ---- the keys of the looks

-- one byte more of those that a look takes
pub byte_more : (ls : List Seen) (at : ℕ) (xs : List ℕ) (i x d : ℕ) → i < length xs → x ≡ get_or xs i d
    → (k a : ℕ) → TakesSoFar ls at xs (i + 1) k a ↔ (TakesSoFar ls at xs i k a ⊎ ((k ≡ x) × (a ≡ at)))
byte_more ls at xs i x d h is k a = (to, from)
  where
    there : slice_get xs i ≡ Some x
    there = slice_get-get_or xs i d h ∙ ap Some (sym is)

    to : TakesSoFar ls at xs (i + 1) k a → TakesSoFar ls at xs i k a ⊎ ((k ≡ x) × (a ≡ at))
    to (inl g) = inl (inl g)
    to (inr g) = go (cases_lt g.1.0 i)
      where
        go : (g.1.0 < i) ⊎ (i ≤ g.1.0) → TakesSoFar ls at xs i k a ⊎ ((k ≡ x) × (a ≡ at))
        go (inl c) = inl (inr (g.0, (g.1.0, c, g.1.2)))
        go (inr c) =
            let d : g.1.0 ≡ i = omega (arith, g.1.1) in
            let s : ◌≡◌ {A = Option ℕ} (Some k) (Some x) = sym (subst (λ z. slice_get xs z ≡ Some k) d g.1.2) ∙ there in
            let e : k ≡ x = cc in
            inr (e, g.0)

    from : TakesSoFar ls at xs i k a ⊎ ((k ≡ x) × (a ≡ at)) → TakesSoFar ls at xs (i + 1) k a
    from (inl (inl g)) = inl g
    from (inl (inr g)) = inr (g.0, (g.1.0, omega (arith, g.1.1), g.1.2))
    from (inr g) = inr (g.1, (i, omega arith, there ∙ ap Some (sym g.0)))

no_bytes : (ls : List Seen) (at : ℕ) (xs : List ℕ) (k a : ℕ) → TakesByte ls at k a ↔ TakesSoFar ls at xs 0 k a
no_bytes ls at xs k a = (inl, from)
  where
    from : TakesSoFar ls at xs 0 k a → TakesByte ls at k a
    from (inl g) = g
    from (inr g) = absurd (omega (arith, g.1.1))

pub bytes_begin : (ls : List Seen) (at : ℕ) (xs : List ℕ) (m : BTreeMap ℕ ℕ) → IsIndex (TakesByte ls at) m → IsIndex (TakesSoFar ls at xs 0) m
bytes_begin ls at xs m h = same_keys (TakesByte ls at) (TakesSoFar ls at xs 0) m (no_bytes ls at xs) h

module _ (ls : List Seen) (i : ℕ) (l : Seen) (h : i < length ls) (is : l ≡ get_or ls i l) where
  here : slice_get ls i ≡ Some l
  here = slice_get-get_or ls i l h ∙ ap Some (sym is)

  same_look : (m : Seen) → slice_get ls i ≡ Some m → m ≡ l
  same_look m e = let s : ◌≡◌ {A = Option Seen} (Some m) (Some l) = sym e ∙ here in cc

  -- all of its bytes
  pub bytes_all : (n : ℕ) → length (argument_seen l) ≤ n → (k a : ℕ) → TakesSoFar ls i (argument_seen l) n k a ↔ TakesByte ls (i + 1) k a
  bytes_all n all k a = (to, from)
    where
      to : TakesSoFar ls i (argument_seen l) n k a → TakesByte ls (i + 1) k a
      to (inl g) = (omega (arith, g.0), g.1)
      to (inr g) = (omega (arith, g.0), (l, subst (λ z. slice_get ls z ≡ Some l) (sym g.0) here, has_at (argument_seen l) g.1.0 k g.1.2))

      from : TakesByte ls (i + 1) k a → TakesSoFar ls i (argument_seen l) n k a
      from g = at (cases_lt a i)
        where
          at : (a < i) ⊎ (i ≤ a) → TakesSoFar ls i (argument_seen l) n k a
          at (inl c) = inl (c, g.1)
          at (inr c) =
              let d : a ≡ i = omega (arith, g.0) in
              let s = same_look g.1.0 (subst (λ z. slice_get ls z ≡ Some g.1.0) d g.1.1) in
              let x = at_has (argument_seen l) k (subst (λ (m : Seen). Has (argument_seen m) k) s g.1.2) in
              inr (d, (x.0, omega (arith, x.1), x.2))

-- ---- the kinds of the offences

pub look_there : (ls : List Seen) (k : ℕ) (p : Place) → slice_get (places_of_looks ls) k ≡ Some p → (l : Seen) × (slice_get ls k ≡ Some l) × (l.place ≡ p)
look_there [] k p e = absurd (cc)
look_there (x ∷ ls) zero p e = let s : x.place ≡ p = cc in (x, refl, s)
look_there (x ∷ ls) (suc k) p e = look_there ls k p e

-- a place that was looked at has an index
pub some_index : (ps : List Place) (p : Place) (o : Option ℕ) → IsIndexOf ps p o → Has ps p → IsSome o
some_index ps p None none h = absurd (none h)
some_index ps p (Some k) is h = refl

module _ (ls : List Seen) (distinct : AreDistinct (places_of_looks ls)) (os : List Offence) (i : ℕ) (o d : Offence)
    (h : i < length os) (is : o ≡ get_or os i d) (at : ℕ) (found : slice_get (places_of_looks ls) at ≡ Some o.place) where
  there : slice_get os i ≡ Some o
  there = slice_get-get_or os i d h ∙ ap Some (sym is)

  abbrev seen : Seen
  seen = (look_there ls at o.place found).0

  pub kind_more : (n : ℕ) → n ≡ kind_number o → (k a : ℕ) → IsOfKind ls os (i + 1) k a ↔ (IsOfKind ls os i k a ⊎ ((k ≡ n) × (a ≡ at)))
  kind_more n e k a = (to, from)
    where
      to : IsOfKind ls os (i + 1) k a → IsOfKind ls os i k a ⊎ ((k ≡ n) × (a ≡ at))
      to g = go (cases_lt g.number i)
        where
          go : (g.number < i) ⊎ (i ≤ g.number) → IsOfKind ls os i k a ⊎ ((k ≡ n) × (a ≡ at))
          go (inl c) = inl (record {
            number = g.number;
            offence = g.offence;
            look = g.look;
            below = c;
            listed = g.listed;
            kind = g.kind;
            seen = g.seen;
            place = g.place;
          })
          go (inr c) =
              let b = g.below in
              let z : g.number ≡ i = omega arith in
              let s : ◌≡◌ {A = Option Offence} (Some g.offence) (Some o) = sym (subst (λ y. slice_get os y ≡ Some g.offence) z g.listed) ∙ there in
              let same : g.offence ≡ o = cc in
              let place : g.look.place ≡ o.place = g.place ∙ ap (λ (t : Offence). t.place) same in
              inr (
                g.kind ∙ ap kind_number same ∙ sym e,
                same_index (places_of_looks ls) o.place a at distinct (place_there ls a g.look g.seen ∙ ap Some place) found,
              )

      from : IsOfKind ls os i k a ⊎ ((k ≡ n) × (a ≡ at)) → IsOfKind ls os (i + 1) k a
      from (inl g) = record {
        number = g.number;
        offence = g.offence;
        look = g.look;
        below = let b = g.below in omega arith;
        listed = g.listed;
        kind = g.kind;
        seen = g.seen;
        place = g.place;
      }
      from (inr g) = record {
        number = i;
        offence = o;
        look = seen;
        below = omega arith;
        listed = there;
        kind = g.0 ∙ e;
        seen = subst (λ y. slice_get ls y ≡ Some seen) (sym g.1) (look_there ls at o.place found).1;
        place = (look_there ls at o.place found).2;
      }

-- ---- the first place that is found

-- the least index at which something is so is that of the first place for which P holds
pub first_where : (P : Place → Type 0) (ps : List Place) (H : ℕ → Type 0) → ((k : ℕ) (p : Place) → slice_get ps k ≡ Some p → P p → H k)
    → ((k : ℕ) → H k → (p : Place) × (slice_get ps k ≡ Some p) × P p) → (o : Option ℕ) → IsLeastOrNone H o → IsFirstWhere P ps o
first_where P ps H to back None none = λ k p e h. none k (to k p e h)
first_where P ps H to back (Some i) least = (back i least.0, λ k p c e h. let le = least.1 k (to k p e h) in omega arith)

-- what the index has of a byte is the first place that takes it
pub taker_found : (j : Job) (ls : List Seen) (b : ℕ) (m : BTreeMap ℕ ℕ) (o : Option ℕ) → AreLooks j ls
    → IsIndex (TakesByte ls (length ls)) m → o ≡ tree.get nat_cmp m b → IsFirstWhere (λ q. IsArgumentByteOf j q b) (places_of_looks ls) o
taker_found j ls b m o looks index is =
    first_where (λ q. IsArgumentByteOf j q b) (places_of_looks ls) (TakesByte ls (length ls) b) to back o
    (subst (IsLeastOrNone (TakesByte ls (length ls) b)) (sym is) (index b))
  where
    to : (k : ℕ) (p : Place) → slice_get (places_of_looks ls) k ≡ Some p → IsArgumentByteOf j p b → TakesByte ls (length ls) b k
    to k p e h =
        let l = look_there ls k p e in
        let n = slice_get_within (places_of_looks ls) k p e in (
          omega (arith, n, number_of_places ls),
          (l.0, l.1, ((looks l.0 (has_at ls k l.0 l.1)).argument b).1 (subst (λ (q : Place). IsArgumentByteOf j q b) (sym l.2) h)),
        )

    back : (k : ℕ) → TakesByte ls (length ls) b k → (p : Place) × (slice_get (places_of_looks ls) k ≡ Some p) × IsArgumentByteOf j p b
    back k g =
        let l = g.1.0 in
        (l.place, place_there ls k l g.1.1, ((looks l (has_at ls k l g.1.1)).argument b).0 g.1.2)

same_kind : (o t : Offence) → kind_number o ≡ kind_number t → (o.place.address ≡ t.place.address) × (o.reason ≡ t.reason)
same_kind o t e = search rules

-- what the index has of an address and a reason is the first place that so offends
pub like_found : (ls : List Seen) (os : List Offence) (o : Offence) (m : BTreeMap ℕ ℕ) (at : Option ℕ)
    → IsIndex (IsOfKind ls os (length os)) m → at ≡ tree.get nat_cmp m (kind_number o) → IsFirstWhere (HasLikeOffence os o) (places_of_looks ls) at
like_found ls os o m at index is =
    first_where (HasLikeOffence os o) (places_of_looks ls) (IsOfKind ls os (length os) (kind_number o)) to back at
    (subst (IsLeastOrNone (IsOfKind ls os (length os) (kind_number o))) (sym is) (index (kind_number o)))
  where
    to : (k : ℕ) (p : Place) → slice_get (places_of_looks ls) k ≡ Some p → HasLikeOffence os o p → IsOfKind ls os (length os) (kind_number o) k
    to k p e h =
        let l = look_there ls k p e in
        let x = at_has os (offence p o.reason) h.1 in
        record {
          number = x.0;
          offence = offence p o.reason;
          look = l.0;
          below = x.1;
          listed = x.2;
          kind = ap (λ a. a * 32 + number_of o.reason) (sym h.0);
          seen = l.1;
          place = l.2;
        }

    back : (k : ℕ) → IsOfKind ls os (length os) (kind_number o) k → (p : Place) × (slice_get (places_of_looks ls) k ≡ Some p) × HasLikeOffence os o p
    back k g =
        let same = same_kind o g.offence g.kind in
        let is : g.offence ≡ offence g.look.place o.reason = cong g.offence g.look.place o.reason (sym g.place) (sym same.1) in (
          g.look.place,
          place_there ls k g.look g.seen,
          (ap (λ (q : Place). q.address) g.place ∙ sym same.0, subst (Has os) is (has_at os g.number g.offence g.listed)),
        )
      where
        cong : (t : Offence) (p : Place) (r : Reason) → t.place ≡ p → t.reason ≡ r → t ≡ offence p r
        cong t p r e f = ap (λ (q : Place). offence q t.reason) e ∙ ap (λ (s : Reason). offence p s) f
