-- Bytes of areas, how they stay the same while areas are merged, and that there is one merged list for them.
use Rattle.std.proofs.Common.{max, None, Bool, false, set, ◌^◌, ◌≡◌, ℕ, suc, ◌+◌, ◌-◌, ◌++◌, ◌↔◌, inl, inr, ⊎_elim, ◌<◌, ◌≤◌, true, ◌||◌, ◌&&◌, nat_le, nat_lt, List, [], ◌∷◌, length, get_or, take, drop, refl, sym, ap, ◌∙◌, subst, ◌⊎◌, arith, append_assoc, IsPermutation, rules}
use Rattle.std.specs.Cmp.Derive.{one_truth}
use Rattle.std.specs.Bool.{MatchBool}
use Rattle.std.specs.List.{All, refill}
use Rattle.std.specs.List.Retain.{DedupsFrom, IsDeduped}
use Rattle.std.specs.List.Sorted.{IsNonDecreasingBy}
use Rattle.std.proofs.lemmas.Bool.{cases_lt, or_cases, or_left, or_right, and_from, le-leb, lt-ltb, both_ways}
use Rattle.std.proofs.lemmas.List.{length-set, take_all, take_at, take_more, take_more_set}
use Rattle.std.proofs.lemmas.List.Elements.{All-set, All-cons, All-head, All-nil, All-tail}
use Rattle.std.proofs.lemmas.List.Folds.{list_any-append}
use Rattle.std.proofs.lemmas.List.Sorted.{list_any-IsPermutation}
use Rattle.ccw_core.specs.declared.areas.Area.{Area}
use Rattle.ccw_core.specs.Areas.{end_of, lies_in}
use Rattle.ccw_core.proofs.Covering.{lies_in-nil}
use Rattle.chan_areas.specs.Merged.{start_of, IsByteOf, EndsBelow, BeginAbove, IsMerged, AreExactly, HaveSameBytes, AreInOrder, LeavesRun, IsJoined, IsOneRun, MergedIsUnique}

-- ---- bytes of areas

pub lies_in-cases : (a : Area) (xs : List Area) (b : ℕ) → lies_in (a ∷ xs) b ≡ true → IsByteOf a b ⊎ (lies_in xs b ≡ true)
unfolding lies_in
lies_in-cases a xs b h = search rules

pub lies_in-first : (a : Area) (xs : List Area) (b : ℕ) → IsByteOf a b → lies_in (a ∷ xs) b ≡ true
unfolding lies_in
lies_in-first a xs b h = or_left _ _ (and_from _ _ (le-leb _ _ h.0) (lt-ltb _ _ h.1))

pub lies_in-rest : (a : Area) (xs : List Area) (b : ℕ) → lies_in xs b ≡ true → lies_in (a ∷ xs) b ≡ true
unfolding lies_in
lies_in-rest a xs b h = or_right _ _ h

pub lies_in-append : (xs ys : List Area) (b : ℕ) → lies_in (xs ++ ys) b ≡ (lies_in xs b || lies_in ys b)
unfolding lies_in
lies_in-append xs ys b = list_any-append (λ x. nat_le x.start b && nat_lt b (x.start + x.len)) xs ys

-- what stands in front doesn't matter
pub same_after : (zs xs ys : List Area) (b : ℕ) → lies_in xs b ≡ lies_in ys b → lies_in (zs ++ xs) b ≡ lies_in (zs ++ ys) b
same_after zs xs ys b e = lies_in-append zs xs b ∙ ap (λ t. lies_in zs b || t) e ∙ sym (lies_in-append zs ys b)

-- nor what comes after
pub same_before : (xs ys zs : List Area) (b : ℕ) → lies_in xs b ≡ lies_in ys b → lies_in (xs ++ zs) b ≡ lies_in (ys ++ zs) b
same_before xs ys zs b e = lies_in-append xs zs b ∙ ap (λ t. t || lies_in zs b) e ∙ sym (lies_in-append ys zs b)

-- one area for two
pub one_for_two : (x y r : Area) (b : ℕ) → (IsByteOf r b → IsByteOf x b ⊎ IsByteOf y b)
    → (IsByteOf x b → IsByteOf r b) → (IsByteOf y b → IsByteOf r b) → lies_in (r ∷ []) b ≡ lies_in (x ∷ y ∷ []) b
one_for_two x y r b f g h = search (rules, lies_in-cases, lies_in-first, lies_in-rest, both_ways, lies_in-nil)

-- in another order
pub lies_in-IsPermutation : (xs ys : List Area) (b : ℕ) → IsPermutation xs ys → lies_in xs b ≡ lies_in ys b
unfolding lies_in
lies_in-IsPermutation xs ys b p = list_any-IsPermutation (λ x. nat_le x.start b && nat_lt b (x.start + x.len)) xs ys p

-- ---- the run that grows

-- the run has the area's bytes already
pub run_stays : (xs : List Area) (run area : Area) → run.start ≤ area.start
    → (area.len ≡ 0) ⊎ (end_of area ≤ end_of run) → HaveSameBytes (xs ++ run ∷ []) (xs ++ run ∷ area ∷ [])
run_stays xs run area order w b = search (rules, same_after, one_for_two)

-- the run is empty
pub run_begins : (xs : List Area) (run area : Area) → run.len ≡ 0 → HaveSameBytes (xs ++ area ∷ []) (xs ++ run ∷ area ∷ [])
run_begins xs run area e b = search (rules, same_after, one_for_two)

-- the run is done
pub run_ends : (xs ys : List Area) (run area : Area) → ys ≡ xs ++ run ∷ [] → HaveSameBytes (ys ++ area ∷ []) (xs ++ run ∷ area ∷ [])
run_ends xs ys run area e b = ap (λ z. lies_in (z ++ area ∷ []) b) e ∙ ap (λ z. lies_in z b) (append_assoc xs (run ∷ []) (area ∷ []))

-- the run grows
pub run_grows : (xs : List Area) (run area r : Area) → r.start ≡ run.start → end_of r ≡ max (end_of run) (end_of area) → run.start ≤ area.start
    → area.start ≤ end_of run → HaveSameBytes (xs ++ r ∷ []) (xs ++ run ∷ area ∷ [])
run_grows xs run area r s e order near b = search (rules, same_after, one_for_two, cases_lt)

-- a list that takes back as many areas as it lent has these
pub refilled : (areas given : List Area) → length given ≡ length areas → refill (length areas) areas given ≡ given
refilled areas given e = take_at given (drop (length given) areas) (length areas) e

-- the last area of a list grows
pub last_grows : (areas : List Area) (last area r : Area) → 0 < length areas → last ≡ get_or areas (length areas - 1) last → last.start ≤ area.start
    → All (EndsBelow (2 ^ 32)) areas → EndsBelow (2 ^ 32) area → (AreInOrder last area → IsOneRun last area r)
    → All (EndsBelow (2 ^ 32)) (set areas (length areas - 1) r) × HaveSameBytes (set areas (length areas - 1) r) (areas ++ area ∷ [])
last_grows areas last area r some is order low fits joined =
    let k = length areas - 1 in
    let front = take k areas in
    let one = joined (order, subst (EndsBelow (2 ^ 32)) (sym is) (low k last (omega arith)), fits) in
    let whole : areas ≡ front ++ last ∷ [] =
    sym (take_all (k + 1) areas (omega arith)) ∙ take_more areas k last (omega arith) ∙ ap (λ z. front ++ z ∷ []) (sym is) in
    let grown : set areas k r ≡ front ++ r ∷ [] =
    sym (take_all (k + 1) (set areas k r) (omega (arith, length-set areas k r))) ∙ take_more_set areas k r (omega arith) in
    (All-set (EndsBelow (2 ^ 32)) areas k r one.low low, λ b. ap (λ z. lies_in z b) grown ∙ one.bytes front b ∙ sym (run_ends front areas last area whole b))

-- ---- one area more

above_push : (n : ℕ) (xs : List Area) (a : Area) → BeginAbove n xs → n < a.start → BeginAbove n (xs ++ a ∷ [])
above_push n [] a h l = (l, tt)
above_push n (x ∷ xs) a h l = (h.0, above_push n xs a h.1 l)

pub merged_push : (xs : List Area) (a : Area) → IsMerged xs → All (EndsBelow a.start) xs → 0 < a.len → IsMerged (xs ++ a ∷ [])
merged_push [] a m e p = (p, tt, tt)
merged_push (x ∷ xs) a m e p = (m.0, above_push (end_of x) xs a m.1 (e 0 x (omega arith)), merged_push xs a m.2 (All-tail (EndsBelow a.start) x xs e) p)

-- an empty run has no bytes
pub bytes_empty : (xs : List Area) (run : Area) (b : ℕ) → run.len ≡ 0 → lies_in xs b ≡ lies_in (xs ++ run ∷ []) b
bytes_empty xs run b e = search (rules, lies_in-append, or_left, or_cases, both_ways, lies_in-nil, lies_in-cases)

-- ---- there is one

-- each byte of areas that begin above n lies above n
pub bytes_above : (n : ℕ) (xs : List Area) (b : ℕ) → BeginAbove n xs → lies_in xs b ≡ true → n < b
bytes_above n [] b h k = absurd (both_ways (lies_in [] b) (lies_in-nil b) k)
bytes_above n (x ∷ xs) b h k = search (rules, lies_in-cases, bytes_above n xs b h.1)

-- no byte of a merged list lies before its first area
pub bytes_from : (x : Area) (xs : List Area) (b : ℕ) → IsMerged (x ∷ xs) → lies_in (x ∷ xs) b ≡ true → x.start ≤ b
bytes_from x xs b m h = search (rules, lies_in-cases, bytes_above)

first_byte : (x : Area) (xs : List Area) → IsMerged (x ∷ xs) → lies_in (x ∷ xs) x.start ≡ true
first_byte x xs m = let p = m.0 in lies_in-first x xs x.start (omega arith, omega arith)

-- the byte after the first area lies in none
after_first : (x : Area) (xs : List Area) → IsMerged (x ∷ xs) → lies_in (x ∷ xs) (end_of x) ≡ true → ⊥
after_first x xs m h = search (rules, lies_in-cases, bytes_above)

same_starts : (x y : Area) (xs ys : List Area) → IsMerged (x ∷ xs) → IsMerged (y ∷ ys) → HaveSameBytes (x ∷ xs) (y ∷ ys) → x.start ≤ y.start
same_starts x y xs ys m n s = bytes_from x xs y.start m (s y.start ∙ first_byte y ys n)

-- the first area of one list doesn't end after that of the other
same_ends : (x y : Area) (xs ys : List Area) → IsMerged (x ∷ xs) → IsMerged (y ∷ ys) → HaveSameBytes (x ∷ xs) (y ∷ ys) → x.start ≡ y.start → end_of x ≤ end_of y
same_ends x y xs ys m n s e = search (rules, cases_lt, after_first, lies_in-first)

same_area : (x y : Area) → x.start ≡ y.start → x.len ≡ y.len → x ≡ y
same_area x y e f = search rules

-- the rests have the same bytes
rest_within : (x y : Area) (xs ys : List Area) (b : ℕ) → x ≡ y → IsMerged (x ∷ xs) → HaveSameBytes (x ∷ xs) (y ∷ ys) → lies_in xs b ≡ true → lies_in ys b ≡ true
rest_within x y xs ys b e m s k = go (lies_in-cases y ys b (sym (s b) ∙ lies_in-rest x xs b k))
  where
    go : IsByteOf y b ⊎ (lies_in ys b ≡ true) → lies_in ys b ≡ true
    go h = search (rules, bytes_above)

pub merged_is_unique : MergedIsUnique
merged_is_unique [] [] m n s = refl
merged_is_unique [] (y ∷ ys) m n s = absurd (both_ways (lies_in [] y.start) (lies_in-nil y.start) (s y.start ∙ first_byte y ys n))
merged_is_unique (x ∷ xs) [] m n s = absurd (both_ways (lies_in [] x.start) (lies_in-nil x.start) (sym (s x.start) ∙ first_byte x xs m))
merged_is_unique (x ∷ xs) (y ∷ ys) m n s =
    let back : HaveSameBytes (y ∷ ys) (x ∷ xs) = λ b. sym (s b) in
    let a = same_starts x y xs ys m n s in
    let b = same_starts y x ys xs n m back in
    let start : x.start ≡ y.start = omega arith in
    let c = same_ends x y xs ys m n s start in
    let d = same_ends y x ys xs n m back (sym start) in
    let len : x.len ≡ y.len = omega arith in
    let e = same_area x y start len in
    let rests = merged_is_unique xs ys m.2 n.2
    (λ b. one_truth (lies_in xs b) (lies_in ys b) (λ k. rest_within x y xs ys b e m s k) (λ k. rest_within y x ys xs b (sym e) n back k)) in
    ap (λ z. z ∷ xs) e ∙ ap (λ z. y ∷ z) rests

-- so the areas of a set of bytes are one list
pub exactly_one : (P : ℕ → Type 0) (xs ys : List Area) → AreExactly P xs → AreExactly P ys → xs ≡ ys
exactly_one P xs ys x y = merged_is_unique xs ys x.merged y.merged
    (λ b. one_truth (lies_in xs b) (lies_in ys b) (λ h. (y.bytes b).1 ((x.bytes b).0 h)) (λ h. (x.bytes b).1 ((y.bytes b).0 h)))

-- ---- where areas end

-- a byte lies before the end of its area
lies_low : (n : ℕ) (areas : List Area) (b : ℕ) → All (EndsBelow n) areas → lies_in areas b ≡ true → b + 1 < n
lies_low n [] b all lies = absurd (both_ways (lies_in [] b) (lies_in-nil b) lies)
lies_low n (a ∷ rest) b all lies = go (lies_low n rest b (All-tail (EndsBelow n) a rest all)) (lies_in-cases a rest b lies)
  where
    go : (lies_in rest b ≡ true → b + 1 < n) → IsByteOf a b ⊎ (lies_in rest b ≡ true) → b + 1 < n
    go others (inl here) = omega (arith, here.1, All-head (EndsBelow n) a rest all)
    go others (inr there) = others there

-- and the last byte of each area of a merged list lies in it
ends_low : (n : ℕ) (areas : List Area) → IsMerged areas → ((b : ℕ) → lies_in areas b ≡ true → b + 1 < n)
    → All (EndsBelow n) areas
ends_low n [] merged low = All-nil (EndsBelow n)
ends_low n (a ∷ rest) merged low =
    let last = low (a.start + (a.len - 1)) (lies_in-first a rest _ (omega (arith, merged.0), omega (arith, merged.0))) in
    All-cons (EndsBelow n) a rest (omega (arith, last, merged.0)) (ends_low n rest merged.2 (λ b lies. low b (lies_in-rest a rest b lies)))

-- so merged areas end where the areas do that they have the bytes of
pub exactly_low : (n : ℕ) (areas merged : List Area) → AreExactly (λ b. lies_in areas b ≡ true) merged → All (EndsBelow n) areas → All (EndsBelow n) merged
exactly_low n areas merged h low = ends_low n merged h.merged (λ b lies. lies_low n areas b low ((h.bytes b).0 lies))

-- the bytes of two lists, merged
pub merged_both : {P Q : ℕ → Type 0} (xs ys all merged : List Area) → all ≡ xs ++ ys → AreExactly (λ b. lies_in all b ≡ true) merged
    → ((b : ℕ) → (lies_in xs b ≡ true) ↔ P b) → ((b : ℕ) → (lies_in ys b ≡ true) ↔ Q b) → AreExactly (λ b. P b ⊎ Q b) merged
merged_both {P} {Q} xs ys all merged e h first second = record {
  merged = h.merged;
  bytes = λ b.
      let both = ap (λ z. lies_in z b) e ∙ lies_in-append xs ys b in (
        λ lies. elim (or_cases (lies_in xs b) (lies_in ys b) (sym both ∙ (h.bytes b).0 lies)) [
          | inl l ↦ inl ((first b).0 l)
          | inr l ↦ inr ((second b).0 l)
        ],
        λ is. (h.bytes b).1 (both ∙ elim is [
          | inl p ↦ or_left (lies_in xs b) (lies_in ys b) ((first b).1 p)
          | inr q ↦ or_right (lies_in xs b) (lies_in ys b) ((second b).1 q)
        ]),
      );
}

-- ---- areas in order of start, joined

-- each area begins no earlier than the one before it, and the first not before n
abbrev BeginFrom : ℕ → List Area → Type 0
BeginFrom n [] = Unit {0}
BeginFrom n (a ∷ rest) = (n ≤ a.start) × BeginFrom a.start rest

begin_from : (n : ℕ) (xs : List Area) → IsNonDecreasingBy start_of xs
    → ((k : ℕ) (d : Area) → k < length xs → n ≤ (get_or xs k d).start) → BeginFrom n xs
begin_from n [] s l = tt
begin_from n (x ∷ xs) s l = (
  l 0 x (omega arith),
  begin_from x.start xs (λ i j d le lt. s (suc i) (suc j) d (omega arith) (omega arith))
      (λ k d lt. s 0 (suc k) d (omega arith) (omega arith)),
)

begin_sooner : (m n : ℕ) (xs : List Area) → m ≤ n → BeginFrom n xs → BeginFrom m xs
begin_sooner m n [] l h = tt
begin_sooner m n (x ∷ xs) l h = (omega (arith, h.0), h.1)

-- one area, and that one empty
abbrev IsEmptyRun : List Area → Type 0
IsEmptyRun [] = ⊥
IsEmptyRun (a ∷ []) = a.len ≡ 0
IsEmptyRun (a ∷ x ∷ xs) = ⊥

empty_run : (runs : List Area) (b : ℕ) → IsEmptyRun runs → lies_in runs b ≡ true → ⊥
empty_run [] b e h = e
empty_run (a ∷ []) b e h = search (rules, lies_in-cases, lies_in-nil, both_ways)
empty_run (a ∷ x ∷ xs) b e h = e

one_run : (run : Area) → IsMerged (run ∷ []) ⊎ IsEmptyRun (run ∷ [])
one_run run = ⊎_elim (λ h. inl (h, tt, tt)) (λ h. inr (omega arith)) (cases_lt 0 run.len)

-- the runs of areas, the first of which begins at n
record AreRuns (n : ℕ) (areas runs : List Area) : Type 0 where
  bytes : HaveSameBytes runs areas
  above : (m : ℕ) → m < n → BeginAbove m runs
  merged : IsMerged runs ⊎ IsEmptyRun runs

-- an area goes into the run before it
run_goes_on : (run area r : Area) (areas runs : List Area) → IsOneRun run area r → AreRuns r.start (r ∷ areas) runs
    → AreRuns run.start (run ∷ area ∷ areas) runs
run_goes_on run area r areas runs one h = record {
  bytes = λ b. h.bytes b ∙ same_before (r ∷ []) (run ∷ area ∷ []) areas b (one.bytes [] b);
  above = λ m l. h.above m (omega (arith, one.later));
  merged = h.merged;
}

-- or a byte lies between the two
run_is_done : (run area : Area) (areas runs : List Area) → IsJoined run area None → AreRuns area.start (area ∷ areas) runs
    → AreRuns run.start (run ∷ area ∷ areas) (run ∷ runs)
run_is_done run area areas runs gap h = record {
  bytes = λ b. same_after (run ∷ []) runs (area ∷ areas) b (h.bytes b);
  above = λ m l. (l, h.above m (omega (arith, gap)));
  merged = inl (gap.0, h.above (end_of run) gap.2, ⊎_elim (λ m. m) (λ e. absurd (filled e)) h.merged);
}
  where
    filled : IsEmptyRun runs → ⊥
    filled e = empty_run runs area.start e (h.bytes area.start ∙ lies_in-first area areas area.start (omega arith, omega (arith, gap)))

abbrev EndsLow : Area → Type 0
EndsLow = EndsBelow (2 ^ 32)

-- the runs of all of them
abbrev pub AreLeftOf : List Area → List Area → Type 0
AreLeftOf xs ys = HaveSameBytes ys xs × (IsMerged ys ⊎ IsEmptyRun ys)

-- without the only run, if that is empty
pub none_left : (xs ys : List Area) (run : Area) → 0 < length ys → run ≡ get_or ys 0 run → run.len ≡ 0 → AreLeftOf xs ys → HaveSameBytes [] xs
none_left xs [] run l is e h b = absurd (omega arith)
none_left xs (a ∷ ys) run l is e h b =
    one_truth (lies_in [] b) (lies_in (a ∷ ys) b) (λ k. absurd (both_ways (lies_in [] b) (lies_in-nil b) k)) (λ k. absurd (none k)) ∙ h.0 b
  where
    none : lies_in (a ∷ ys) b ≡ true → ⊥
    none k = ⊎_elim (λ m. absurd (omega (arith, m.0, e, ap (λ (x : Area). x.len) is))) (λ r. empty_run (a ∷ ys) b r k) h.1

-- runs of which the first isn't empty are merged
pub all_left : (xs ys : List Area) (run : Area) → (0 < length ys → (run ≡ get_or ys 0 run) × (0 < run.len)) → AreLeftOf xs ys → IsMerged ys
all_left xs ys run some h = ⊎_elim (λ m. m) (λ e. absurd (go ys e some)) h.1
  where
    go : (zs : List Area) → IsEmptyRun zs → (0 < length zs → (run ≡ get_or zs 0 run) × (0 < run.len)) → ⊥
    go [] e l = e
    go (a ∷ []) e l = let first = l (omega arith) in absurd (omega (arith, e, first.1, ap (λ (x : Area). x.len) first.0))
    go (a ∷ x ∷ zs) e l = e

-- so runs of sorted areas are the one merged list for the areas as they were given
pub runs_are : (xs sorted runs : List Area) → IsPermutation xs sorted → HaveSameBytes runs sorted → IsMerged runs → AreExactly (λ b. lies_in xs b ≡ true) runs
runs_are xs sorted runs p h m =
    let same : HaveSameBytes runs xs = λ b. h b ∙ sym (lies_in-IsPermutation xs sorted b p) in
    record { merged = m; bytes = λ b. ((λ k. sym (same b) ∙ k), λ k. same b ∙ k) }

-- a closure that joins areas
abbrev Joins : {S : Type 0} → (S → Area → Area → Bool → S → Area → Area → Type 0) → Type 0
Joins {S} R = (s : S) (area run : Area) (b : Bool) (t : S) (kept r : Area) → R s area run b t kept r
    → (kept ≡ area) × LeavesRun run area b r

module _ {S : Type 0} (R : S → Area → Area → Bool → S → Area → Area → Type 0) (goes : Joins R) where
  runs_from : (s : S) (run : Area) (xs ys : List Area) → BeginFrom run.start xs → All (EndsBelow (2 ^ 32)) (run ∷ xs)
      → DedupsFrom R s run xs ys → AreRuns run.start (run ∷ xs) ys
  runs_from s run [] ys order low h = record {
    bytes = λ b. ap (λ z. lies_in z b) h;
    above = λ m l. subst (BeginAbove m) (sym h) (l, tt);
    merged = subst (λ z. IsMerged z ⊎ IsEmptyRun z) (sym h) (one_run run);
  }
  runs_from s run (x ∷ xs) ys order low h =
      let one = goes s x run h.0 h.1 h.2 h.3 h.4 in
      next h.0 one.1 h.5
      (λ r o l d. runs_from h.1 r xs ys o l d)
      (λ zs d. runs_from h.1 x xs zs order.1 (All-tail EndsLow run (x ∷ xs) low) (subst (λ k. DedupsFrom R h.1 k xs zs) one.0 d))
    where
      given : AreInOrder run x
      given = (order.0, All-head EndsLow run (x ∷ xs) low, All-head EndsLow x xs (All-tail EndsLow run (x ∷ xs) low))

      next : (b : Bool) → LeavesRun run x b h.3 → MatchBool b (DedupsFrom R h.1 h.3 xs ys) ((zs : List Area) × DedupsFrom R h.1 h.2 xs zs × (ys ≡ h.3 ∷ zs))
          → ((r : Area) → BeginFrom r.start xs → All EndsLow (r ∷ xs) → DedupsFrom R h.1 r xs ys → AreRuns r.start (r ∷ xs) ys)
          → ((zs : List Area) → DedupsFrom R h.1 h.2 xs zs → AreRuns x.start (x ∷ xs) zs) → AreRuns run.start (run ∷ x ∷ xs) ys
      next true taken rest on done =
          let one = taken given in
          run_goes_on run x h.3 xs ys one
          (on h.3 (begin_sooner h.3.start x.start xs one.order order.1)
          (All-cons EndsLow h.3 xs one.low (All-tail EndsLow x xs (All-tail EndsLow run (x ∷ xs) low))) rest)
      next false gap rest on done =
          subst (AreRuns run.start (run ∷ x ∷ xs)) (sym (rest.2 ∙ ap (λ z. z ∷ rest.0) gap.0)) (run_is_done run x xs rest.0 (gap.1 given) (done rest.0 rest.1))

pub runs_left : {S : Type 0} {R : S → Area → Area → Bool → S → Area → Area → Type 0} {s : S} {given : List Area} (xs ys : List Area)
    → IsDeduped R s given ys → given ≡ xs → IsNonDecreasingBy start_of xs → All EndsLow xs → Joins R → AreLeftOf xs ys
runs_left {R = R} {s = s} xs ys h e = go xs (subst (λ z. IsDeduped R s z ys) e h)
  where
    go : (xs : List Area) → IsDeduped R s xs ys → IsNonDecreasingBy start_of xs → All EndsLow xs → Joins R → AreLeftOf xs ys
    go [] h order low goes = (λ b. ap (λ z. lies_in z b) h.told, inl (subst IsMerged (sym h.told) tt))
    go (x ∷ xs) h order low goes =
        let runs = runs_from R goes s x xs ys (begin_from 0 (x ∷ xs) order (λ k d l. omega arith)).1 low h.told in
        (runs.bytes, runs.merged)
