-- The marked places, written out in order.
use Rattle.chan_walk.proofs.Names.{[], AllByRecursion, ap, append_assoc, AreDistinct, arith, bit_at, Bool, BTreeMap, cases_lt, common_steps, eq-eqb, eqb, eqb-true, false, Has, HasWay, if◌then◌else◌, inl, inr, IsStrictlySortedBy, IsWalked, Job, length, length-map, Less, List, ListsMarks, map, marks_of, marks_or_none, MarksAgree, nat_cmp, nat_tests, None, Option, or_cases, or_left, or_right, Place, place_at, place_number, places_of, refl, rules, Some, subst, suc, sym, true, way_of, ways, zero, ℕ, ◌*◌, ◌++◌, ◌+◌, ◌-◌, ◌<◌, ◌==◌, ◌↔◌, ◌∙◌, ◌∷◌, ◌≡◌, ◌≤◌, ◌⊎◌}
use Rattle.std.proofs.Common.{nat_lt}
use Rattle.std.specs.List.{IsDistinct, list_any}
use Rattle.std.specs.Map.{keys_of}
use Rattle.std.proofs.lemmas.Bool.{ne_eqb}
use Rattle.std.proofs.lemmas.Cmp.{nat_cmp_total, nat_eq_equiv}
use Rattle.std.proofs.lemmas.Map.Made.{length-le_from_is_member}
use Rattle.std.proofs.lemmas.Map.Lookups.{exact_unsigned}
use Rattle.std.proofs.lemmas.Map.Views.{btree_map_get_iff}
use Rattle.std.proofs.lemmas.Map.Keys.{IsStrictlyIncreasing-from_sorted}
use Rattle.std.proofs.lemmas.Nat.Bits.{bit_at-zero}
use Rattle.chan_walk.specs.Places.{AreReachable}
use Rattle.chan_walk.specs.Marks.{put, places_at, HasMark}
use Rattle.chan_walk.proofs.Theory.Lists.{contains_has, has_cases, has_contains, has_left, has_right}
use Rattle.chan_walk.proofs.Algorithms.Marks.{way_small, way_of-place_at, place_at-way_of, same_number}
use Rattle.chan_walk.proofs.Algorithms.Walking.{all_found}
use Rattle.std.specs.BTreeMap as tree

less_cmp : (a b : ℕ) → a < b → nat_cmp a b ≡ Less
less_cmp a b l = grind (arith, nat_tests)

pub cmp_less : (a b : ℕ) → nat_cmp a b ≡ Less → a < b
cmp_less a b e = grind (arith, nat_tests)

-- ---- lists of places in order

-- the places are in order
abbrev AreSorted : List Place → Type 0
AreSorted ps = IsStrictlySortedBy nat_cmp (map place_number ps)

-- b is below the number of each
abbrev AllAbove : ℕ → List Place → Type 0
AllAbove b ps = AllByRecursion (λ y. nat_cmp b y ≡ Less) (map place_number ps)

all_above : (b : ℕ) (ps : List Place) → ((p : Place) → Has ps p → b < place_number p) → AllAbove b ps
all_above b [] f = tt
all_above b (p ∷ ps) f = (less_cmp b (place_number p) (f p (inl refl)), all_above b ps (λ q h. f q (inr h)))

above_all : (b : ℕ) (ps : List Place) → AllAbove b ps → (p : Place) → Has ps p → b < place_number p
above_all b [] a p h = absurd h
above_all b (q ∷ ps) a p (inl e) = subst (λ z. b < place_number z) e (cmp_less b (place_number q) a.0)
above_all b (q ∷ ps) a p (inr h) = above_all b ps a.1 p h

sorted_append : (ps qs : List Place) → AreSorted ps → AreSorted qs
    → ((p q : Place) → Has ps p → Has qs q → place_number p < place_number q) → AreSorted (ps ++ qs)
unfolding IsStrictlySortedBy
sorted_append [] qs s t f = t
sorted_append (p ∷ ps) qs s t f = (
  all_above (place_number p) (ps ++ qs) (λ q h. go q (has_cases ps qs q h)),
  sorted_append ps qs s.1 t (λ q r h k. f q r (inr h) k),
)
  where
    go : (q : Place) → Has ps q ⊎ Has qs q → place_number p < place_number q
    go q (inl h) = above_all (place_number p) ps s.0 q h
    go q (inr h) = f p q (inl refl) h

apart_sorted : (ps : List Place) → AreSorted ps → AreDistinct ps
unfolding IsStrictlySortedBy
apart_sorted [] s = tt
apart_sorted (p ∷ ps) s = ((λ h. let l = above_all (place_number p) ps s.0 p h in absurd (omega arith)), apart_sorted ps s.1)

-- ---- distinct places put in order

abbrev put_in : Place → List Place → List Place
put_in p [] = p ∷ []
put_in p (q ∷ qs) = if nat_lt (place_number p) (place_number q) then p ∷ q ∷ qs else q ∷ put_in p qs

abbrev pub in_order : List Place → List Place
in_order [] = []
in_order (p ∷ ps) = put_in p (in_order ps)

one_longer : (p : Place) (qs : List Place) → length (put_in p qs) ≡ suc (length qs)
one_longer p [] = refl
one_longer p (q ∷ qs) = go (nat_lt (place_number p) (place_number q)) (one_longer p qs)
  where
    go : (b : Bool) → length (put_in p qs) ≡ suc (length qs) → length (if b then p ∷ q ∷ qs else q ∷ put_in p qs) ≡ suc (suc (length qs))
    go true rest = refl
    go false rest = ap suc rest

pub as_many : (ps : List Place) → length (in_order ps) ≡ length ps
as_many [] = refl
as_many (p ∷ ps) = one_longer p (in_order ps) ∙ ap suc (as_many ps)

has_put : (p : Place) (qs : List Place) (r : Place) → Has (put_in p qs) r ↔ Has (p ∷ qs) r
has_put p [] r = (λ h. h, λ h. h)
has_put p (q ∷ qs) r = go (nat_lt (place_number p) (place_number q)) (has_put p qs r)
  where
    go : (b : Bool) → Has (put_in p qs) r ↔ Has (p ∷ qs) r → Has (if b then p ∷ q ∷ qs else q ∷ put_in p qs) r ↔ Has (p ∷ q ∷ qs) r
    go true rest = (λ h. h, λ h. h)
    go false rest = search (rules, rest)

pub same_places : (ps : List Place) (r : Place) → Has (in_order ps) r ↔ Has ps r
same_places [] r = (λ h. h, λ h. h)
same_places (p ∷ ps) r = search (rules, has_put p (in_order ps) r, same_places ps r)

sorted_put : (p : Place) (qs : List Place) → AreSorted qs → (Has qs p → ⊥) → AreSorted (put_in p qs)
unfolding IsStrictlySortedBy
sorted_put p [] s new = (tt, tt)
sorted_put p (q ∷ qs) s new = go (nat_lt (place_number p) (place_number q)) refl (sorted_put p qs s.1 (λ h. new (inr h)))
  where
    go : (b : Bool) → nat_lt (place_number p) (place_number q) ≡ b → AreSorted (put_in p qs) → AreSorted (if b then p ∷ q ∷ qs else q ∷ put_in p qs)
    go true e rest = (all_above (place_number p) (q ∷ qs) (λ r h. above r h), s)
      where
        low : place_number p < place_number q
        low = grind (arith, nat_tests)

        above : (r : Place) → Has (q ∷ qs) r → place_number p < place_number r
        above r (inl d) = subst (λ z. place_number p < place_number z) d low
        above r (inr h) = omega (arith, low, above_all (place_number q) qs s.0 r h)
    go false e rest = (all_above (place_number q) (put_in p qs) (λ r h. above r ((has_put p qs r).0 h)), rest)
      where
        low : place_number q < place_number p
        low =
            let le : place_number q ≤ place_number p = grind (arith, nat_tests) in
            let apart : place_number q ≡ place_number p → ⊥ = λ d. new (inl (same_number q p d)) in
            grind (arith, nat_tests)

        above : (r : Place) → Has (p ∷ qs) r → place_number q < place_number r
        above r (inl d) = subst (λ z. place_number q < place_number z) d low
        above r (inr h) = above_all (place_number q) qs s.0 r h

pub ordered : (ps : List Place) → AreDistinct ps → AreSorted (in_order ps)
unfolding IsStrictlySortedBy
ordered [] d = tt
ordered (p ∷ ps) d = sorted_put p (in_order ps) (ordered ps d.1) (λ h. d.0 ((same_places ps p).0 h))

-- ---- the places at one address

-- one of the ways i to i + n - 1, whose bit is on
record IsWay (a m i n : ℕ) (p : Place) : Type 0 where
  way : ℕ
  from : i ≤ way
  below : way < i + n
  is : p ≡ place_at a way
  set : bit_at m way ≡ 1

later_way : (a m i n : ℕ) (p : Place) → IsWay a m (suc i) n p → IsWay a m i (suc n) p
later_way a m i n p w = let f = w.from in let b = w.below in record { way = w.way; from = omega arith; below = omega arith; is = w.is; set = w.set }

way_in : (a m i n : ℕ) (p : Place) → Has (ways a m i n) p → IsWay a m i n p
unfolding ways
way_in a m i zero p h = absurd h
way_in a m i (suc n) p h = go (bit_at m i == 1) refl (way_in a m (suc i) n p) h
  where
    go : (t : Bool) → (bit_at m i == 1) ≡ t → (Has (ways a m (suc i) n) p → IsWay a m (suc i) n p)
        → Has (put t (place_at a i) (ways a m (suc i) n)) p → IsWay a m i (suc n) p
    go true e rec (inl d) = record { way = i; from = omega arith; below = omega arith; is = sym d; set = eqb-true (bit_at m i) 1 e }
    go true e rec (inr k) = later_way a m i n p (rec k)
    go false e rec k = later_way a m i n p (rec k)

in_ways : (a m i n k : ℕ) → i ≤ k → k < i + n → bit_at m k ≡ 1 → Has (ways a m i n) (place_at a k)
unfolding ways
in_ways a m i zero k l h s = absurd (omega arith)
in_ways a m i (suc n) k l h s = go (cases_lt i k) (λ b. in_ways a m (suc i) n k b (omega arith) s)
  where
    first : (t : Bool) → t ≡ true → Has (put t (place_at a i) (ways a m (suc i) n)) (place_at a i)
    first true e = inl refl
    first false e = absurd (cc)

    later : (t : Bool) → Has (ways a m (suc i) n) (place_at a k) → Has (put t (place_at a i) (ways a m (suc i) n)) (place_at a k)
    later true w = inr w
    later false w = w

    go : (i < k) ⊎ (k ≤ i) → (i < k → Has (ways a m (suc i) n) (place_at a k)) → Has (put (bit_at m i == 1) (place_at a i) (ways a m (suc i) n)) (place_at a k)
    go (inl b) rec = later (bit_at m i == 1) (rec b)
    go (inr b) rec =
        let e : i ≡ k = omega arith in
        let on : (bit_at m i == 1) ≡ true = eq-eqb (bit_at m i) 1 (ap (bit_at m) e ∙ s) in
        subst (λ z. Has (put (bit_at m i == 1) (place_at a i) (ways a m (suc i) n)) (place_at a z)) e (first (bit_at m i == 1) on)

-- the number of the place at a that is entered in the way w
number_at : (a w : ℕ) → w < 8 → place_number (place_at a w) ≡ 8 * a + w
number_at a w h = ap (λ z. 8 * a + z) (way_of-place_at a w h)

sorted_ways : (a m i n : ℕ) → i + n ≤ 8 → AreSorted (ways a m i n)
unfolding IsStrictlySortedBy ways
sorted_ways a m i zero h = tt
sorted_ways a m i (suc n) h = go (bit_at m i == 1) (sorted_ways a m (suc i) n (omega arith))
  where
    above : (p : Place) → Has (ways a m (suc i) n) p → place_number (place_at a i) < place_number p
    above p k =
        let w = way_in a m (suc i) n p k in
        let f = w.from in
        let b = w.below in
        let here = number_at a i (omega arith) in
        let there : place_number p ≡ 8 * a + w.way = ap place_number w.is ∙ number_at a w.way (omega arith) in
        omega arith

    go : (t : Bool) → AreSorted (ways a m (suc i) n) → AreSorted (put t (place_at a i) (ways a m (suc i) n))
    go true s = (all_above (place_number (place_at a i)) (ways a m (suc i) n) above, s)
    go false s = s

-- the place has the address a, and its bit of m is on
record IsAt (a m : ℕ) (p : Place) : Type 0 where
  there : p.address ≡ a
  set : bit_at m (way_of p) ≡ 1

at_one : (a m : ℕ) (p : Place) → Has (places_at a m) p → IsAt a m p
at_one a m p h = grind (arith, common_steps, way_in, way_of-place_at)

one_at : (a m : ℕ) (p : Place) → IsAt a m p → Has (places_at a m) p
one_at a m p w =
    subst (Has (places_at a m)) (ap (λ z. place_at z (way_of p)) (sym w.there) ∙ place_at-way_of p)
    (in_ways a m 0 8 (way_of p) (omega arith) (way_small p) w.set)

-- ---- the places of all entries

-- an entry tells of the place
record HasEntryFor (es : List (ℕ × ℕ)) (p : Place) : Type 0 where
  marks : ℕ
  entry : Has es (p.address, marks)
  set : bit_at marks (way_of p) ≡ 1

told : (es : List (ℕ × ℕ)) (p : Place) → Has (places_of es) p → HasEntryFor es p
told [] p h = absurd h
told (e ∷ es) p h = search (rules, has_cases, at_one, told es p)

tells : (es : List (ℕ × ℕ)) (p : Place) (m : ℕ) → Has es (p.address, m) → bit_at m (way_of p) ≡ 1 → Has (places_of es) p
tells [] p m h s = absurd h
tells (e ∷ es) p m (inl d) s = search (rules, has_left, one_at)
tells (e ∷ es) p m (inr h) s = has_right (places_at e.0 e.1) (places_of es) p (tells es p m h s)

key_above : (a : ℕ) (es : List (ℕ × ℕ)) (b v : ℕ) → AllByRecursion (λ y. nat_cmp a y ≡ Less) (keys_of es) → Has es (b, v) → a < b
key_above a [] b v s h = absurd h
key_above a (e ∷ es) b v s (inl d) = let P : ℕ × ℕ → Type 0 = λ z. nat_cmp a z.0 ≡ Less in cmp_less a b (subst P d s.0)
key_above a (e ∷ es) b v s (inr h) = key_above a es b v s.1 h

sorted_places : (es : List (ℕ × ℕ)) → IsStrictlySortedBy nat_cmp (keys_of es) → AreSorted (places_of es)
unfolding IsStrictlySortedBy
sorted_places [] s = tt
sorted_places (e ∷ es) s = sorted_append (places_at e.0 e.1) (places_of es) (sorted_ways e.0 e.1 0 8 (omega arith)) (sorted_places es s.1) above
  where
    above : (p q : Place) → Has (places_at e.0 e.1) p → Has (places_of es) q → place_number p < place_number q
    above p q h k =
        let here = (at_one e.0 e.1 p h).there in
        let there = told es q k in
        let l = key_above e.0 es q.address there.marks s.0 there.entry in
        let a = way_small p in
        omega arith

-- the marked places are those written out
pub mark_is_place : (m : BTreeMap ℕ ℕ) (p : Place) → tree.IsOrdered nat_cmp m → HasMark m p ↔ Has (places_of m.entries) p
mark_is_place m p o = (to (tree.get nat_cmp m p.address) refl, from)
  where
    no_bit : bit_at 0 (way_of p) ≡ 1 → ⊥
    no_bit h = let z = bit_at-zero (way_of p) in absurd (omega arith)

    to : (g : Option ℕ) → tree.get nat_cmp m p.address ≡ g → bit_at (marks_or_none (tree.get nat_cmp m p.address)) (way_of p) ≡ 1 → Has (places_of m.entries) p
    to None e h = absurd (no_bit (subst (λ z. bit_at (marks_or_none z) (way_of p) ≡ 1) e h))
    to (Some v) e h =
        tells m.entries p v (contains_has m.entries (p.address, v) ((btree_map_get_iff nat_cmp_total exact_unsigned m o p.address v).0 e))
        (subst (λ z. bit_at (marks_or_none z) (way_of p) ≡ 1) e h)

    from : Has (places_of m.entries) p → HasMark m p
    from h =
        let r = told m.entries p h in
        subst (λ z. bit_at (marks_or_none z) (way_of p) ≡ 1)
        (sym ((btree_map_get_iff nat_cmp_total exact_unsigned m o p.address r.marks).1 (has_contains m.entries (p.address, r.marks) r.entry))) r.set

-- ---- what is written out

pub listed_reachable : (j : Job) (n : ℕ) (m : BTreeMap ℕ ℕ) (ps qs : List Place) (i : ℕ)
    → ListsMarks m qs → MarksAgree m ps → IsWalked j n ps i → length ps ≤ i → AreReachable j qs
listed_reachable j n m ps qs i l a w h = subst (AreReachable j) (sym l.listed) (record {
  ordered = IsStrictlyIncreasing-from_sorted (map place_number (places_of m.entries)) (sorted_places m.entries l.ordered);
  each = λ p r. (mark_is_place m p l.ordered).0 ((a p).1 (all_found j n ps i w h p r));
  only = λ p k. w.only p ((a p).0 ((mark_is_place m p l.ordered).1 k));
})

-- the bits of an address are the ways of the places written out for it
pub bit_is_way : (m : BTreeMap ℕ ℕ) (qs : List Place) (a w : ℕ) → ListsMarks m qs → w < 8 → (bit_at (marks_of m a) w ≡ 1) ↔ HasWay qs a w
bit_is_way m qs a w l h = (to, from)
  where
    back : way_of (place_at a w) ≡ w
    back = way_of-place_at a w h

    to : bit_at (marks_of m a) w ≡ 1 → HasWay qs a w
    to e = record {
      place = place_at a w;
      listed = subst (λ z. Has z (place_at a w)) (sym l.listed) ((mark_is_place m (place_at a w) l.ordered).0 (ap (bit_at (marks_of m a)) back ∙ e));
      there = refl;
      entered = back;
    }

    from : HasWay qs a w → bit_at (marks_of m a) w ≡ 1
    from g =
        ap (λ z. bit_at (marks_of m z) w) (sym g.there) ∙ ap (bit_at (marks_of m g.place.address)) (sym g.entered)
        ∙ (mark_is_place m g.place l.ordered).1 (subst (λ z. Has z g.place) l.listed g.listed)

-- ---- how many

pub distinct_numbers : {X : Type 0} (number : X → ℕ) → ((x y : X) → number x ≡ number y → x ≡ y) → (xs : List X) → AreDistinct xs
    → IsDistinct eqb (map number xs)
unfolding IsDistinct
distinct_numbers number same [] a = tt
distinct_numbers {X} number same (x ∷ xs) a = (all xs a.0, distinct_numbers number same xs a.1)
  where
    all : (ys : List X) → (Has ys x → ⊥) → AllByRecursion (λ n. eqb (number x) n ≡ false) (map number ys)
    all [] n = tt
    all (y ∷ ys) n = (ne_eqb (number x) (number y) (λ e. n (inl (sym (same x y e)))), all ys (λ h. n (inr h)))

pub has_number : (k : ℕ) (ps : List Place) → list_any (λ y. eqb k y) (map place_number ps) ≡ true → (p : Place) × Has ps p × (place_number p ≡ k)
has_number k [] h = absurd (cc)
has_number k (p ∷ ps) h = search (rules, or_cases, eqb-true, has_number k ps)

number_has : (k : ℕ) (ps : List Place) (p : Place) → Has ps p → place_number p ≡ k → list_any (λ y. eqb k y) (map place_number ps) ≡ true
number_has k [] p h e = absurd h
number_has k (q ∷ ps) p (inl d) e = or_left _ _ (eq-eqb k (place_number q) (sym e ∙ ap place_number (sym d)))
number_has k (q ∷ ps) p (inr h) e = or_right _ _ (number_has k ps p h e)

-- distinct places, each of which the second list has, are no more than it has
pub fewer : (ps qs : List Place) → AreDistinct ps → ((p : Place) → Has ps p → Has qs p) → length ps ≤ length qs
fewer ps qs a f =
    let l : length (map place_number ps) ≤ length (map place_number qs) =
    length-le_from_is_member nat_eq_equiv (map place_number ps) (map place_number qs)
    (distinct_numbers place_number same_number ps a) (λ k h. let r = has_number k ps h in number_has k qs r.0 (f r.0 r.1) r.2) in
    omega (arith, length-map ps place_number, length-map qs place_number)

pub listed_few : (j : Job) (n : ℕ) (m : BTreeMap ℕ ℕ) (ps qs : List Place) (i : ℕ) → ListsMarks m qs → MarksAgree m ps → IsWalked j n ps i → length qs ≤ n
listed_few j n m ps qs i l a w = search (rules, fewer, apart_sorted, sorted_places, mark_is_place)

-- ---- writing out the places of one address

pub ways_next : (a m i : ℕ) (ps qs rs : List Place) → i < 8 → bit_at m i ≡ 1
    → qs ≡ ps ++ place_at a i ∷ [] → ps ++ ways a m i (8 - i) ≡ rs → qs ++ ways a m (i + 1) (8 - (i + 1)) ≡ rs
unfolding ways
ways_next a m i ps qs rs l b e h =
    let n : 8 - i ≡ suc (8 - (i + 1)) = omega arith in
    let k : i + 1 ≡ suc i = omega arith in
    let s : (bit_at m i == 1) ≡ true = eq-eqb _ _ b in
    ap (λ z. z ++ ways a m (i + 1) (8 - (i + 1))) e ∙ append_assoc ps (place_at a i ∷ []) (ways a m (i + 1) (8 - (i + 1)))
    ∙ ap (λ z. ps ++ place_at a i ∷ ways a m z (8 - (i + 1))) k
    ∙ ap (λ t. ps ++ put t (place_at a i) (ways a m (suc i) (8 - (i + 1)))) (sym s) ∙ ap (λ z. ps ++ ways a m i z) (sym n) ∙ h

pub ways_skip : (a m i : ℕ) (ps rs : List Place) → i < 8 → (bit_at m i ≡ 1 → ⊥) → ps ++ ways a m i (8 - i) ≡ rs → ps ++ ways a m (i + 1) (8 - (i + 1)) ≡ rs
unfolding ways
ways_skip a m i ps rs l b h =
    let n : 8 - i ≡ suc (8 - (i + 1)) = omega arith in
    let k : i + 1 ≡ suc i = omega arith in
    let s : (bit_at m i == 1) ≡ false = ne_eqb _ _ b in
    ap (λ z. ps ++ ways a m z (8 - (i + 1))) k ∙ ap (λ t. ps ++ put t (place_at a i) (ways a m (suc i) (8 - (i + 1)))) (sym s)
    ∙ ap (λ z. ps ++ ways a m i z) (sym n) ∙ h

pub ways_done : (a m i : ℕ) (ps rs : List Place) → 8 ≤ i → ps ++ ways a m i (8 - i) ≡ rs → ps ≡ rs
unfolding ways
ways_done a m i ps rs l h = search rules
