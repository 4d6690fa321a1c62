-- Places found by their addresses: one more is found too, and from each place of a list the one before it.
use Rattle.chan_walk.proofs.Names.{[], ap, arith, cases_lt, get_or, Has, inl, inr, length, length-append, List, Place, place_number, places_of_looks, refl, Seen, slice_get, slice_get_read, slice_index, Some, subst, suc, sym, take, zero, ℕ, ◌*◌, ◌++◌, ◌+◌, ◌-◌, ◌%◌, ◌<◌, ◌∙◌, ◌∷◌, ◌≡◌, ◌≤◌, ◌⊎◌}
use Rattle.std.specs.Prelude.{None, Option, ◌/◌, ◌^◌}
use Rattle.std.proofs.Common.{set}
use Rattle.std.proofs.Math.Nat.{mod-lt, mul-lt-mul_of_pos_right}
use Rattle.std.proofs.Math.Seq.{get_or-append_seam}
use Rattle.std.proofs.lemmas.Bool.{cases_eq}
use Rattle.std.proofs.lemmas.List.{get_or_read, get_or_append_left, get_or-set_other, get_or-set_same, length-set, length-take, take-append-le, take_at}
use Rattle.std.proofs.lemmas.Nat.{div_below}
use Rattle.std.proofs.lemmas.Option.{slice_get-get_or, slice_get_within}
use Rattle.chan_walk.proofs.Algorithms.Looking.{number_of_places}
use Rattle.chan_walk.proofs.Algorithms.Walking.{place_there}
use Rattle.chan_walk.proofs.Theory.Lists.{at_has, front_at, last_at, pushed, same_at, taken_at}
use Rattle.chan_walk.specs.declared.place_table.PlaceTable.{PlaceTable}
use Rattle.chan_walk.specs.declared.place_table.TheConstants.{GOLDEN}
use Rattle.std.specs.List.{AllWithin, HoldsAt}
use Rattle.std.specs.Option.{MatchOption}
use Rattle.chan_walk.specs.PlaceTable.{FindsPlaces, IsIndexOf, IsLastIn, list_of, ListsPlaces}

pub list_within : (lists a : ℕ) → 0 < lists → list_of lists a < lists
list_within lists a some =
    let mixed : a / 8 * GOLDEN % 2 ^ 32 < 2 ^ 32 = mod-lt (a / 8 * GOLDEN) (omega arith) in
    div_below (a / 8 * GOLDEN % 2 ^ 32 * lists) (2 ^ 32) lists (omega arith)
    (omega (arith, mul-lt-mul_of_pos_right mixed some))

-- a table that has lists finds the places by them
pub by_lists : (t : PlaceTable) (ps : List Place) → (length t.last.items ≡ 0 → ⊥) → FindsPlaces t ps → ListsPlaces t ps
by_lists t ps some (inl none) = absurd (some none)
by_lists t ps some (inr lists) = lists

-- ---- one place more

-- it isn't the last of another list
last_other : (lists : ℕ) (ps : List Place) (q : Place) (list n : ℕ) → (list_of lists q.address ≡ list → ⊥) → IsLastIn lists ps list n
    → IsLastIn lists (ps ++ q ∷ []) list n
last_other lists ps q list n d l = record {
  last = λ k is. let w = l.last k is in (w.0, front_at ps (q ∷ []) k w.0 w.1, w.2);
  none = λ i p le s. go i p le (pushed ps q p i s);
}
  where
    go : (i : ℕ) (p : Place) → n ≤ i → (slice_get ps i ≡ Some p) ⊎ ((i ≡ length ps) × (q ≡ p)) → list_of lists p.address ≡ list → ⊥
    go i p le (inl s) = l.none i p le s
    go i p le (inr s) = λ h. d (ap (λ (z : Place). list_of lists z.address) s.1 ∙ h)

-- it is the last of its own
last_here : (lists : ℕ) (ps : List Place) (q : Place) (list : ℕ) → list_of lists q.address ≡ list → IsLastIn lists (ps ++ q ∷ []) list (length ps + 1)
last_here lists ps q list in_list = record {
  last = λ k is. let e : length ps ≡ k = omega (arith, is) in (q, subst (λ z. slice_get (ps ++ q ∷ []) z ≡ Some q) e (last_at ps q), in_list);
  none = λ i p le s. go i p le (pushed ps q p i s);
}
  where
    go : (i : ℕ) (p : Place) → length ps + 1 ≤ i → (slice_get ps i ≡ Some p) ⊎ ((i ≡ length ps) × (q ≡ p)) → list_of lists p.address ≡ list → ⊥
    go i p le (inl s) h = absurd (omega (arith, le, slice_get_within ps i p s))
    go i p le (inr s) h = absurd (omega (arith, le, s.0))

pub finds_more : (t u : PlaceTable) (ps : List Place) (q : Place) (list before : ℕ) → ListsPlaces t ps
    → list ≡ list_of (length t.last.items) q.address → before ≡ slice_index t.last.items list → u.before.items ≡ t.before.items ++ before ∷ []
    → u.last.items ≡ set t.last.items list (length ps + 1) → ListsPlaces u (ps ++ q ∷ [])
finds_more t u ps q list before f in_list is more written = record {
  some = omega (arith, lists, f.some);
  few = omega (arith, lists, f.few);
  each = ap length more ∙ omega (arith, length-append t.before.items (before ∷ []), length-append ps (q ∷ []), f.each);
  last = λ k low. subst (λ m. IsLastIn m (ps ++ q ∷ []) k (slice_index u.last.items k)) (sym lists)
      (subst (λ xs. IsLastIn n (ps ++ q ∷ []) k (slice_index xs k)) (sym written) (last k (omega (arith, lists, low)) (cases_eq k list)));
  before = λ i p s. subst (λ m. IsLastIn m (take i (ps ++ q ∷ [])) (list_of m p.address) (slice_index u.before.items i)) (sym lists)
      (subst (λ xs. IsLastIn n (take i (ps ++ q ∷ [])) (list_of n p.address) (slice_index xs i)) (sym more) (old i p (pushed ps q p i s)));
}
  where
    n : ℕ
    n = length t.last.items

    lists : length u.last.items ≡ n
    lists = ap length written ∙ length-set t.last.items list (length ps + 1)

    within : list < n
    within = omega (arith, in_list, list_within n q.address f.some)

    last : (k : ℕ) → k < n → (k ≡ list) ⊎ (k ≡ list → ⊥) → IsLastIn n (ps ++ q ∷ []) k (slice_index (set t.last.items list (length ps + 1)) k)
    last k low (inl e) =
        let here = ap (slice_index (set t.last.items list (length ps + 1))) e ∙ get_or-set_same t.last.items list (length ps + 1) 0 within in
        subst (IsLastIn n (ps ++ q ∷ []) k) (sym here) (last_here n ps q k (sym in_list ∙ sym e))
    last k low (inr d) =
        subst (IsLastIn n (ps ++ q ∷ []) k) (sym (get_or-set_other t.last.items list k (length ps + 1) 0 d))
        (last_other n ps q k (slice_index t.last.items k) (λ e. d (sym e ∙ sym in_list)) (f.last k low))

    old : (i : ℕ) (p : Place) → (slice_get ps i ≡ Some p) ⊎ ((i ≡ length ps) × (q ≡ p))
        → IsLastIn n (take i (ps ++ q ∷ [])) (list_of n p.address) (slice_index (t.before.items ++ before ∷ []) i)
    old i p (inl s) =
        let low : i < length ps = slice_get_within ps i p s in
        let front = take-append-le i ps (q ∷ []) (omega (arith, low)) in
        subst (λ z. IsLastIn n z (list_of n p.address) (slice_index (t.before.items ++ before ∷ []) i)) (sym front)
        (subst (IsLastIn n (take i ps) (list_of n p.address)) (sym (get_or_append_left t.before.items (before ∷ []) 0 i (omega (arith, low, f.each))))
        (f.before i p s))
    old i p (inr s) =
        let here : slice_index (t.before.items ++ before ∷ []) i ≡ before
        = ap (slice_index (t.before.items ++ before ∷ [])) (s.0 ∙ sym f.each) ∙ get_or-append_seam t.before.items before [] 0 in
        let at : list ≡ list_of n p.address = in_list ∙ ap (λ (z : Place). list_of n z.address) s.1 in
        subst (λ z. IsLastIn n z (list_of n p.address) (slice_index (t.before.items ++ before ∷ []) i)) (sym (take_at ps (q ∷ []) i (sym s.0)))
        (subst (λ k. IsLastIn n ps k (slice_index (t.before.items ++ before ∷ []) i)) at
        (subst (IsLastIn n ps list) (sym (here ∙ is)) (f.last list within)))

-- ---- from a place of a list to the one before it

-- from the index end on no place is this one, and the one before end is in its list
pub record IsLeftBelow (lists : ℕ) (ps : List Place) (p : Place) (end : ℕ) : Type 0 where
  pub within : end ≤ length ps
  pub others : (i : ℕ) → end ≤ i → slice_get ps i ≡ Some p → ⊥
  pub here : (k : ℕ) → end ≡ k + 1 → (q : Place) × (slice_get ps k ≡ Some q) × (list_of lists q.address ≡ list_of lists p.address)

last_within : (lists : ℕ) (ps : List Place) (list n : ℕ) → IsLastIn lists ps list n → n ≤ length ps
last_within lists ps list zero l = omega arith
last_within lists ps list (suc k) l = let w = l.last k (omega arith) in omega (arith, slice_get_within ps k w.0 w.1)

left_first : (lists : ℕ) (ps : List Place) (p : Place) (end : ℕ) → IsLastIn lists ps (list_of lists p.address) end → IsLeftBelow lists ps p end
left_first lists ps p end l = record {
  within = last_within lists ps (list_of lists p.address) end l;
  others = λ i le s. l.none i p le s refl;
  here = l.last;
}

-- the search begins at the last place of the list
pub left_last : (t : PlaceTable) (ps : List Place) (p : Place) (list end : ℕ) → ListsPlaces t ps → list ≡ list_of (length t.last.items) p.address
    → end ≡ get_or t.last.items list end → IsLeftBelow (length t.last.items) ps p end
left_last t ps p list end f in_list is =
    let low : list < length t.last.items = omega (arith, in_list, list_within (length t.last.items) p.address f.some) in
    left_first (length t.last.items) ps p end
    (subst (λ k. IsLastIn (length t.last.items) ps k end) in_list
    (subst (IsLastIn (length t.last.items) ps list) (sym (get_or_read t.last.items list end low is 0)) (f.last list low)))

left_before : (t : PlaceTable) (ps : List Place) (p q : Place) (end : ℕ) → ListsPlaces t ps → IsLeftBelow (length t.last.items) ps p end → 0 < end
    → slice_get ps (end - 1) ≡ Some q → (q ≡ p → ⊥)
    → IsLeftBelow (length t.last.items) ps p (slice_index t.before.items (end - 1)) × (slice_index t.before.items (end - 1) < end)
left_before t ps p q end f l some here other = (
  record { within = omega (arith, low, l.within); others = λ i le s. others i (cases_lt i (end - 1)) (cases_lt (end - 1) i) le s; here = at },
  omega (arith, low, some),
)
  where
    lists : ℕ
    lists = length t.last.items

    n : ℕ
    n = slice_index t.before.items (end - 1)

    there : list_of lists q.address ≡ list_of lists p.address
    there = let w = l.here (end - 1) (omega (arith, some)) in
        ap (λ (z : Place). list_of lists z.address) (same_at ps (end - 1) (end - 1) q w.0 here w.1 refl) ∙ w.2

    before : IsLastIn lists (take (end - 1) ps) (list_of lists p.address) n
    before = subst (λ k. IsLastIn lists (take (end - 1) ps) k n) there (f.before (end - 1) q here)

    low : n ≤ end - 1
    low = omega (arith, last_within lists (take (end - 1) ps) (list_of lists p.address) n before, length-take (end - 1) ps)

    others : (i : ℕ) → (i < end - 1) ⊎ (end - 1 ≤ i) → (end - 1 < i) ⊎ (i ≤ end - 1) → n ≤ i → slice_get ps i ≡ Some p → ⊥
    others i (inl a) b le s = before.none i p le (taken_at ps (end - 1) i a ∙ s) refl
    others i (inr a) (inl b) le s = l.others i (omega arith) s
    others i (inr a) (inr b) le s = other (same_at ps (end - 1) i q p here s (omega arith))

    at : (k : ℕ) → n ≡ k + 1 → (q : Place) × (slice_get ps k ≡ Some q) × (list_of lists q.address ≡ list_of lists p.address)
    at k e = let w = before.last k e in (w.0, sym (taken_at ps (end - 1) k (omega (arith, low))) ∙ w.1, w.2)

pub none_left : (lists : ℕ) (ps : List Place) (p : Place) → IsLeftBelow lists ps p 0 → Has ps p → ⊥
none_left lists ps p l h = let w = at_has ps p h in l.others w.0 (omega arith) w.2

-- the look of an index is at its place
pub look_at : (ls : List Seen) (i : ℕ) (l : Seen) → i < length ls → l ≡ get_or ls i l → slice_get (places_of_looks ls) i ≡ Some l.place
look_at ls i l low is = place_there ls i l (slice_get_read ls (length ls) i l refl low is)

-- the first of the looks that is at a place
pub index_of_first : (ls : List Seen) (p : Place) (r : Option ℕ)
    → MatchOption r (AllWithin (λ (l : Seen). l.place ≡ p → ⊥) ls 0 (length ls))
    (λ i. (i < length ls) × HoldsAt (λ (l : Seen). l.place ≡ p) ls i × AllWithin (λ (l : Seen). l.place ≡ p → ⊥) ls 0 i)
    → IsIndexOf (places_of_looks ls) p r
index_of_first [] p None none = λ h. h
index_of_first (l ∷ ls) p None none = λ h.
    let w = at_has (places_of_looks (l ∷ ls)) p h in
    let low : w.0 < length (l ∷ ls) = omega (arith, w.1, number_of_places (l ∷ ls)) in
    none w.0 l (omega arith) low (same_at (places_of_looks (l ∷ ls)) w.0 w.0 _ p (place_there (l ∷ ls) w.0 _ (slice_get-get_or (l ∷ ls) w.0 l low)) w.2 refl)
index_of_first [] p (Some i) first = absurd (omega (arith, first.0))
index_of_first (l ∷ ls) p (Some i) first = place_there (l ∷ ls) i _ (slice_get-get_or (l ∷ ls) i l first.0) ∙ ap Some (first.1 l)

-- and so is the one before an index
pub look_below : (lists : ℕ) (ls : List Seen) (p : Place) (end : ℕ) (l : Seen) → IsLeftBelow lists (places_of_looks ls) p end → 0 < end
    → l ≡ get_or ls (end - 1) l → slice_get (places_of_looks ls) (end - 1) ≡ Some l.place
look_below lists ls p end l left some is =
    look_at ls (end - 1) l (omega (arith, left.within, number_of_places ls, some)) is

-- and if that is another place, the search goes on before it
pub left_look : (t : PlaceTable) (ls : List Seen) (p q : Place) (end b : ℕ) → ListsPlaces t (places_of_looks ls)
    → IsLeftBelow (length t.last.items) (places_of_looks ls) p end → 0 < end → slice_get (places_of_looks ls) (end - 1) ≡ Some q
    → (place_number q ≡ place_number p → ⊥) → b ≡ get_or t.before.items (end - 1) b
    → IsLeftBelow (length t.last.items) (places_of_looks ls) p b × (b < end)
left_look t ls p q end b f left some here other is =
    let read = get_or_read t.before.items (end - 1) b (omega (arith, f.each, left.within, some)) is 0 in
    subst (λ n. IsLeftBelow (length t.last.items) (places_of_looks ls) p n × (n < end)) (sym read)
    (left_before t (places_of_looks ls) p q end f left some here (λ e. other (ap place_number e)))
