-- A walk finds what is reachable, and nothing else.
use Rattle.chan_walk.proofs.Names.{[], AddsPlace, ap, AreDistinct, AreLooks, AreReached, AreSuccessors, arith, cases_lt, Follows, Has, HasFault, HasFound, HasNoRoomFor, inl, inr, IsAmong, IsPath, IsReachable, IsWalked, Job, length, length-append, List, Next, None, Option, option_map, Place, place_of, places_of_looks, Reason, refl, rules, Seen, slice_get-map, Some, subst, suc, sym, zero, ℕ, ◌++◌, ◌+◌, ◌<◌, ◌↔◌, ◌∙◌, ◌∷◌, ◌≡◌, ◌≤◌, ◌⊎◌}
use Rattle.std.specs.List.{slice_get}
use Rattle.chan_walk.specs.Places.{HasMoreThan}
use Rattle.chan_walk.specs.Successor.{Successor}
use Rattle.chan_walk.proofs.Theory.Faults.{fault_exists, fault_unique}
use Rattle.chan_walk.proofs.Theory.Lists.{has_at, has_left, has_push, at_has}

-- ---- places by their index

pub slice_get-append : (ps qs : List Place) (k : ℕ) → k < length ps → slice_get (ps ++ qs) k ≡ slice_get ps k
slice_get-append [] qs k h = absurd (omega arith)
slice_get-append (p ∷ ps) qs zero h = refl
slice_get-append (p ∷ ps) qs (suc k) h = slice_get-append ps qs k (omega arith)

apart_push : (q : Place) (ps : List Place) → AreDistinct ps → (Has ps q → ⊥) → AreDistinct (ps ++ q ∷ [])
apart_push q [] a n = ((λ h. h), tt)
apart_push q (p ∷ ps) a n = search (rules, has_push, apart_push q ps a.1)

-- ---- one place more

-- the list qs, got from ps by the place o
record Grows (j : Job) (n : ℕ) (o : Option Place) (ps qs : List Place) (i : ℕ) : Type 0 where
  walked : IsWalked j n qs i
  keeps : (p : Place) → Has ps p → Has qs p
  has : (q : Place) → o ≡ Some q → Has qs q
  same : (k : ℕ) → k < length ps → slice_get qs k ≡ slice_get ps k
  longer : length ps ≤ length qs

only_push : (j : Job) (q : Place) (ps : List Place) → IsReachable j q
    → ((p : Place) → Has ps p → IsReachable j p) → (p : Place) → Has (ps ++ q ∷ []) p → IsReachable j p
only_push j q ps r f p h = search (rules, has_push)

stays : (j : Job) (n : ℕ) (q : Place) (ps : List Place) (i : ℕ) → Has ps q → IsWalked j n ps i → Grows j n (Some q) ps ps i
stays j n q ps i h w = search rules

grows : (j : Job) (n : ℕ) (q : Place) (ps : List Place) (i : ℕ) → IsReachable j q
    → (Has ps q → ⊥) → length ps < n → IsWalked j n ps i → Grows j n (Some q) ps (ps ++ q ∷ []) i
grows j n q ps i r d l w = record {
  walked = record {
    few = omega (arith, length-append ps (q ∷ []));
    within = omega (arith, length-append ps (q ∷ []), w.within);
    distinct = apart_push q ps w.distinct d;
    begins = has_left ps _ _ w.begins;
    only = only_push j q ps r w.only;
    closed = λ k p s h e f. has_left ps _ s (w.closed k p s h (sym (slice_get-append ps (q ∷ []) k (omega (arith, w.within))) ∙ e) f);
  };
  keeps = λ p k. has_left ps _ p k;
  has = λ p e. let same : q ≡ p = cc in (has_push ps q p).1 (inr same);
  same = slice_get-append ps (q ∷ []);
  longer = omega (arith, length-append ps (q ∷ []));
}

walked_adds : (j : Job) (n : ℕ) (o : Option Place) (from : ℕ) (ps qs : List Place) (fs gs : List ℕ) (i : ℕ)
    → ((q : Place) → o ≡ Some q → IsReachable j q) → AddsPlace n o from ps qs fs gs → IsWalked j n ps i → Grows j n o ps qs i
walked_adds j n None from ps qs fs gs i r a w =
    subst (λ z. Grows j n None ps z i) (sym a.0)
    (record { walked = w; keeps = λ p k. k; has = λ q e. absurd (cc); same = λ k l. refl; longer = omega arith })
walked_adds j n (Some q) from ps qs fs gs i r (inl a) w = subst (λ z. Grows j n (Some q) ps z i) (sym a.1) (stays j n q ps i a.0 w)
walked_adds j n (Some q) from ps qs fs gs i r (inr a) w = subst (λ z. Grows j n (Some q) ps z i) (sym a.1) (grows j n q ps i (r q refl) a.0 a.2 w)

walked_overflows : (j : Job) (n : ℕ) (o : Option Place) (ps : List Place) (i : ℕ)
    → ((q : Place) → o ≡ Some q → IsReachable j q) → HasNoRoomFor n o ps → IsWalked j n ps i → HasMoreThan j n
walked_overflows j n None ps i r a w = absurd a
walked_overflows j n (Some q) ps i r a w = record {
  places = ps ++ q ∷ [];
  distinct = apart_push q ps w.distinct a.0;
  many = omega (arith, length-append ps (q ∷ []), a.1);
  only = only_push j q ps (r q refl) w.only;
}

-- ---- the successors of one place

-- a place leads where its successors stand, if it has no own fault, and else nowhere
pub follows_exactly : (j : Job) (p : Place) (n : Next) → AreSuccessors j p n → (q : Place) → IsAmong n q ↔ Follows j p q
follows_exactly j p n are q = let f = fault_exists j p in go f.0 f.1
  where
    go : (r : Option Reason) → HasFault j p r → IsAmong n q ↔ Follows j p q
    go None f = (to, λ g. from g.1)
      where
        to : IsAmong n q → Follows j p q
        to (inl e) = (f, inl (sym (are.next f) ∙ e))
        to (inr e) = (f, inr (sym (are.skip f) ∙ e))

        from : Successor j p q → IsAmong n q
        from (inl e) = inl (are.next f ∙ e)
        from (inr e) = inr (are.skip f ∙ e)
    go (Some r) f = (to, λ g. let e = fault_unique j p None (Some r) g.0 f in absurd (cc))
      where
        to : IsAmong n q → Follows j p q
        to (inl e) = let g = (are.faulty r f).0 in absurd (cc)
        to (inr e) = let g = (are.faulty r f).1 in absurd (cc)

reaches : (j : Job) (p q : Place) → IsReachable j p → Follows j p q → IsReachable j q
reaches j p q r f = (p ∷ r.0, (r.1, f.0, f.1))

-- what follows the place of index i
pub record AreNextAt (j : Job) (ps : List Place) (i : ℕ) (n : Next) : Type 0 where
  pub from : Place
  pub there : slice_get ps i ≡ Some from
  pub each : (q : Place) → IsAmong n q ↔ Follows j from q

pub place_there : (ls : List Seen) (i : ℕ) (l : Seen) → slice_get ls i ≡ Some l → slice_get (places_of_looks ls) i ≡ Some l.place
place_there ls i l e = slice_get-map place_of ls i ∙ ap (option_map place_of) e

pub are_next : (j : Job) (ls : List Seen) (i : ℕ) (l : Seen) (n : Next) → AreLooks j ls → slice_get ls i ≡ Some l → n ≡ l.next → AreSuccessors j l.place n
are_next j ls i l n are e same = subst (AreSuccessors j l.place) (sym same) (are l (has_at ls i l e)).next

-- what follows the place of a look is what the look shows
pub leads_from_look : (j : Job) (ls : List Seen) (i : ℕ) (l : Seen) (n : Next)
    → AreLooks j ls → slice_get ls i ≡ Some l → n ≡ l.next → AreNextAt j (places_of_looks ls) i n
leads_from_look j ls i l n are e same = search (rules, place_there, follows_exactly, are_next)

from_next : (j : Job) (l : ℕ) (n : Next) (ps : List Place) (i : ℕ) → IsWalked j l ps i → AreNextAt j ps i n → (q : Place) → n.next ≡ Some q → IsReachable j q
from_next j l n ps i w s q e = reaches j s.from q (w.only s.from (has_at ps i s.from s.there)) ((s.each q).0 (inl e))

from_skip : (j : Job) (l : ℕ) (n : Next) (ps : List Place) (i : ℕ) → IsWalked j l ps i → AreNextAt j ps i n → (q : Place) → n.skip ≡ Some q → IsReachable j q
from_skip j l n ps i w s q e = reaches j s.from q (w.only s.from (has_at ps i s.from s.there)) ((s.each q).0 (inr e))

pub next_overflows : (j : Job) (l : ℕ) (n : Next) (ps : List Place) (i : ℕ) → IsWalked j l ps i → AreNextAt j ps i n → HasNoRoomFor l n.next ps
    → HasMoreThan j l
next_overflows j l n ps i w s b = walked_overflows j l n.next ps i (from_next j l n ps i w s) b w

pub skip_overflows : (j : Job) (l : ℕ) (n : Next) (from : ℕ) (ps qs : List Place) (fs gs : List ℕ) (i : ℕ)
    → IsWalked j l ps i → AreNextAt j ps i n → AddsPlace l n.next from ps qs fs gs → HasNoRoomFor l n.skip qs → HasMoreThan j l
skip_overflows j l n from ps qs fs gs i w s a b =
    let g = walked_adds j l n.next from ps qs fs gs i (from_next j l n ps i w s) a w in
    walked_overflows j l n.skip qs i (from_skip j l n ps i w s) b g.walked

pub walked_on : (j : Job) (l : ℕ) (n : Next) (from : ℕ) (ps qs rs : List Place) (fs gs hs : List ℕ) (i : ℕ) → IsWalked j l ps i
    → i < length ps → AreNextAt j ps i n → AddsPlace l n.next from ps qs fs gs → AddsPlace l n.skip from qs rs gs hs → IsWalked j l rs (i + 1)
walked_on j l n from ps qs rs fs gs hs i w h s a b = record {
  few = z.walked.few;
  within = omega (arith, y.longer, z.longer);
  distinct = z.walked.distinct;
  begins = z.walked.begins;
  only = z.walked.only;
  closed = λ k p q u e f. close k p q (cases_lt k i) u e f;
}
  where
    y : Grows j l n.next ps qs i
    y = walked_adds j l n.next from ps qs fs gs i (from_next j l n ps i w s) a w

    z : Grows j l n.skip qs rs i
    z = walked_adds j l n.skip from qs rs gs hs i (from_skip j l n ps i w s) b y.walked

    same : slice_get rs i ≡ slice_get ps i
    same = z.same i (omega (arith, y.longer)) ∙ y.same i h

    among : (q : Place) → IsAmong n q → Has rs q
    among q h = search (rules, z, y)

    close : (k : ℕ) (p q : Place) → (k < i) ⊎ (i ≤ k) → k < i + 1 → slice_get rs k ≡ Some p → Follows j p q → Has rs q
    close k p q (inl v) u e f = z.walked.closed k p q v e f
    close k p q (inr v) u e f =
        let at : i ≡ k = omega arith in
        let here : Some s.from ≡ Some p = sym s.there ∙ sym same ∙ ap (slice_get rs) at ∙ e in
        let is : s.from ≡ p = cc in
        among q ((s.each q).1 (subst (λ t. Follows j t q) (sym is) f))

-- ---- the whole walk

-- where the successors of all are found, each reachable place is
pub all_found : (j : Job) (n : ℕ) (ps : List Place) (i : ℕ) → IsWalked j n ps i → length ps ≤ i → (p : Place) → IsReachable j p → Has ps p
all_found j n ps i w h p r = go p r.0 r.1
  where
    step : (p q : Place) → Has ps p → Follows j p q → Has ps q
    step p q m f = let a = at_has ps p m in w.closed a.0 p q (omega (arith, a.1)) a.2 f

    go : (p : Place) (qs : List Place) → IsPath j (p ∷ qs) → Has ps p
    go p [] e = subst (Has ps) (sym e) w.begins
    go q (p ∷ qs) e = step p q (go p qs e.0) (e.1, e.2)

-- a walk's places are the reachable ones
pub reached_all : (j : Job) (ls : List Seen) (fs : List ℕ) → HasFound j ls fs → AreReached j (places_of_looks ls)
reached_all j ls fs f = (all_found j j.limit (places_of_looks ls) f.at f.walked f.all, f.walked.only)

-- what a walk found, as the places that were looked at
pub reached_looks : (j : Job) (ls some : List Seen) (fs : List ℕ) → HasFound j ls fs → some ≡ ls → AreLooks j some × AreReached j (places_of_looks some)
reached_looks j ls some fs f e = (subst (AreLooks j) (sym e) f.looks, subst (AreReached j) (ap places_of_looks (sym e)) (reached_all j ls fs f))
