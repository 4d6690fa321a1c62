-- The first of a job's offences is the verdict.
use Rattle.chan_walk.proofs.Names.{[], AllByRecursion, ap, append-nil, append_assoc, Area, AreDistinct, AreReached, arith, BadFormat, Bool, both_ways, cases_lt, ccw_at-some, ccw_at-where, ChangesArgument, ChangesCcw, ChangesGuarded, common_steps, DataOutside, eq-eqb, eqb-true, false, FetchNotLent, get_or, Has, HasFault, HasOffences, HasOwnFault, Inhibited, inl, inr, InvalidCode, IsArgumentByte, IsCcwByte, IsClear, IsDistinct-IsPermutation, IsLook, IsNonDecreasingBy, IsPermutation, IsPermutation-map, IsReachable, IsStrictlyIncreasing, IsStrictlyIncreasing-from_distinct, IsStrictlySortedBy, IsTrue, Job, length, Less, lies_in, List, map, map-append, min, Misaligned, nat_cmp, None, NotInTable, offence_number, Offends, Option, OutsideStorage, Place, place_of, places_of_looks, Reason, refl, rules, SeekOutside, Seen, ShortSeek, slice_get, Some, StoreNotLent, StoresOver, subst, sym, take, TransferNotAllowed, true, way_of, WeakensMask, ZeroCount, ℕ, ◌++◌, ◌<◌, ◌==◌, ◌↔◌, ◌∙◌, ◌∷◌, ◌≡◌, ◌≤◌, ◌⊎◌}
use Rattle.std.proofs.Common.{drop}
use Rattle.std.proofs.lemmas.List.{length-take, take-append-drop}
use Rattle.std.proofs.lemmas.Map.Keys.{sorted_from_strictly_increasing}
use Rattle.chan_walk.specs.declared.offence.Offence.{Offence}
use Rattle.chan_walk.specs.Offence.{AddsOffences, AreAllOffences, AreOffences, FirstIsVerdict, Offending, StoresInto}
use Rattle.chan_walk.specs.Reason.{number_of}
use Rattle.chan_walk.specs.Verdict.{ComesFirst}
use Rattle.chan_walk.proofs.Theory.Checks.{check_stands}
use Rattle.chan_walk.proofs.Theory.Faults.{clear_check, fault_unique}
use Rattle.chan_walk.proofs.Algorithms.InOrder.{cmp_less, distinct_numbers}
use Rattle.chan_walk.proofs.Theory.Lists.{has_cases, has_left, has_push, has_right, at_has}
use Rattle.chan_walk.proofs.Algorithms.Looking.{number_of_places, place_at}
use Rattle.chan_walk.proofs.Algorithms.Marks.{same_place, way_small}
use Rattle.chan_walk.proofs.Algorithms.Sorting.{eqb_flips, non_decreasing}
use Rattle.chan_walk.proofs.Algorithms.Tracing.{same_index}
use Rattle.chan_walk.proofs.Algorithms.Verdicts.{change_of, clear_all, meets_from_over, not_clear, over_from_meets}
use Rattle.chan_walk.proofs.Algorithms.Walking.{slice_get-append}

-- an offence by its place and its reason
abbrev pub offence : Place → Reason → Offence
offence p r = record { place = p; reason = r }

-- each of the rest has a greater number than the first
above_first : (n : ℕ) (os : List Offence) → AllByRecursion (λ y. nat_cmp n y ≡ Less) (map offence_number os) → (o : Offence) → Has os o → n < offence_number o
above_first n [] a o h = absurd h
above_first n (t ∷ os) a o (inl e) = subst (λ z. n < offence_number z) e (cmp_less n (offence_number t) a.0)
above_first n (t ∷ os) a o (inr h) = above_first n os a.1 o h

all_above : (o : Offence) (os : List Offence) → IsStrictlyIncreasing (map offence_number (o ∷ os))
    → (t : Offence) → Has os t → offence_number o < offence_number t
unfolding IsStrictlySortedBy
all_above o os up t h =
    let sorted : IsStrictlySortedBy nat_cmp (map offence_number (o ∷ os)) = sorted_from_strictly_increasing (map offence_number (o ∷ os)) up in
    above_first (offence_number o) os sorted.0 t h

-- ---- the parts of an offence's number

number_small : (r : Reason) → number_of r < 32
number_small r = search rules

-- the reasons by their numbers, from 1 on
abbrev reasons : List Reason
reasons =
    Misaligned ∷ Misaligned ∷ OutsideStorage ∷ TransferNotAllowed ∷ InvalidCode ∷ BadFormat ∷ ZeroCount ∷ DataOutside
    ∷ NotInTable ∷ Inhibited ∷ StoreNotLent ∷ FetchNotLent ∷ ShortSeek ∷ SeekOutside ∷ ChangesCcw ∷ ChangesArgument ∷ WeakensMask ∷ []

reason_there : (r : Reason) → get_or reasons (number_of r) Misaligned ≡ r
reason_there r = search rules

pub same_reason : (r t : Reason) → number_of r ≡ number_of t → r ≡ t
same_reason r t e = sym (reason_there r) ∙ ap (λ n. get_or reasons n Misaligned) e ∙ reason_there t

-- a lesser number comes first
comes_first : (o t : Offence) → offence_number o < offence_number t → ComesFirst o.place.address o.reason t.place.address t.reason
comes_first o t l = go (cases_lt o.place.address t.place.address)
  where
    go : (o.place.address < t.place.address) ⊎ (t.place.address ≤ o.place.address) → ComesFirst o.place.address o.reason t.place.address t.reason
    go (inl b) = inl b
    go (inr b) =
        let r = number_small o.reason in
        let s = number_small t.reason in
        let w = way_small o.place in
        let v = way_small t.place in
        inr (omega arith, omega arith)

pub first_is_verdict : FirstIsVerdict
first_is_verdict j [] are = λ p r m o. are.each (record { place = p; reason = r }) (m, o)
first_is_verdict j (o ∷ os) are = (record { place = o.place; reached = here.0; address = refl; offends = here.1 }, first)
  where
    here : IsReachable j o.place × Offends j o.place o.reason
    here = are.only o (inl refl)

    first : (p : Place) (t : Reason) → IsReachable j p → Offends j p t → ComesFirst o.place.address o.reason p.address t
    first p t m k = go (are.each (record { place = p; reason = t }) (m, k))
      where
        go : Has (o ∷ os) (record { place = p; reason = t }) → ComesFirst o.place.address o.reason p.address t
        go (inl e) = inr (ap (λ (z : Offence). z.place.address) e, subst (λ (z : Offence). number_of o.reason ≤ number_of z.reason) e (omega arith))
        go (inr h) = comes_first o (record { place = p; reason = t }) (all_above o os are.ordered _ h)

-- ---- offences with one number are one offence

pub same_offence : (o t : Offence) → offence_number o ≡ offence_number t → o ≡ t
same_offence o t e =
    let r = number_small o.reason in
    let s = number_small t.reason in
    let w = way_small o.place in
    let v = way_small t.place in
    let way : way_of o.place ≡ way_of t.place = omega arith in
    let number : number_of o.reason ≡ number_of t.reason = omega arith in
    let place = same_place o.place t.place (omega arith) way in
    let reason = same_reason o.reason t.reason number in
    ap (λ z. offence z o.reason) place ∙ ap (offence t.place) reason

-- ---- put in order

pub increasing : (os ts : List Offence) → IsNonDecreasingBy offence_number ts
    → IsPermutation os ts → AreDistinct os → IsStrictlyIncreasing (map offence_number ts)
increasing os ts up moved distinct =
    search (
      rules,
      distinct_numbers offence_number same_offence,
      IsDistinct-IsPermutation,
      eqb_flips,
      IsPermutation-map,
      IsStrictlyIncreasing-from_distinct,
      non_decreasing offence_number,
    )

-- ---- place by place

apart_append : {X : Type 0} (xs ys : List X) → AreDistinct xs → AreDistinct ys → ((x : X) → Has xs x → Has ys x → ⊥) → AreDistinct (xs ++ ys)
apart_append [] ys a b n = b
apart_append (x ∷ xs) ys a b n = search (rules, has_cases, apart_append xs ys a.1 b)

-- none, or one
pub adds_none : (Off : Place → Reason → Type 0) (p : Place) (os ts : List Offence) → ts ≡ os → ((r : Reason) → Off p r → ⊥) → AddsOffences Off p os ts
adds_none Off p os ts e n = record { more = []; is = e ∙ sym (append-nil os); exactly = λ o. ((λ h. absurd h), λ h. absurd (n o.reason h.1)); distinct = tt }

pub adds_one : (Off : Place → Reason → Type 0) (p : Place) (r : Reason) (os ts : List Offence)
    → ts ≡ os ++ offence p r ∷ [] → Off p r → ((t : Reason) → Off p t → r ≡ t) → AddsOffences Off p os ts
adds_one Off p r os ts e off only = search rules

-- in two ways that share no reason
pub adds_both : (One Other Off : Place → Reason → Type 0) (p : Place) (os ts us : List Offence) → AddsOffences One p os ts → AddsOffences Other p ts us
    → ((r : Reason) → Off p r ↔ (One p r ⊎ Other p r)) → ((r : Reason) → One p r → Other p r → ⊥) → AddsOffences Off p os us
adds_both One Other Off p os ts us a b either never = search (rules, append_assoc, has_cases, apart_append, has_left, has_right)

-- one place more
pub offences_none : (Off : Place → Reason → Type 0) (os : List Offence) → os ≡ [] → HasOffences Off [] os
offences_none Off os e = subst (HasOffences Off []) (sym e) (record { exactly = λ o. ((λ h. absurd h), λ h. absurd h.0); distinct = tt })

pub offences_more : (Off : Place → Reason → Type 0) (ps : List Place) (p : Place) (os ts : List Offence)
    → (Has ps p → ⊥) → HasOffences Off ps os → AddsOffences Off p os ts → HasOffences Off (ps ++ p ∷ []) ts
offences_more Off ps p os ts new h a = search (rules, has_cases, has_push, apart_append, has_left, has_right)

-- the place of the next look is new
pub new_place : (ls : List Seen) (i : ℕ) (l : Seen) → AreDistinct (places_of_looks ls)
    → i < length ls → l ≡ get_or ls i l → Has (places_of_looks (take i ls)) l.place → ⊥
new_place ls i l distinct within e h =
    let taken = at_has (places_of_looks (take i ls)) l.place h in
    let all : length (places_of_looks (take i ls)) ≡ length (take i ls) = number_of_places (take i ls) in
    let some : length (take i ls) ≡ min i (length ls) = length-take i ls in
    let split : places_of_looks (take i ls) ++ places_of_looks (drop i ls) ≡ places_of_looks ls =
    sym (map-append place_of (take i ls) (drop i ls)) ∙ ap places_of_looks (take-append-drop i ls) in
    let there : slice_get (places_of_looks ls) taken.0 ≡ Some l.place =
    ap (λ z. slice_get z taken.0) (sym split) ∙ slice_get-append (places_of_looks (take i ls)) (places_of_looks (drop i ls)) taken.0 taken.1 ∙ taken.2 in
    let same = same_index (places_of_looks ls) l.place taken.0 i distinct there (place_at ls i l within e) in
    omega (arith, same, taken.1, all, some)

-- ---- stores over guarded bytes

-- the CCW that was seen stores into the areas where it stores over one of their bytes
pub stores_both : (j : Job) (l : Seen) (b : Bool) (given areas : List Area) (P : ℕ → Type 0) → IsLook j l → IsClear j l.place
    → given ≡ areas → ((a : ℕ) → (lies_in areas a ≡ true) ↔ P a) → IsTrue b ↔ StoresInto l given → IsTrue b ↔ StoresOver j l.place P
stores_both j l b given areas P look clear e same h = search (rules, ccw_at-where, check_stands, clear_check, ccw_at-some, over_from_meets, meets_from_over)

-- the two changes at a place
pub adds_changes : (j : Job) (p : Place) (a b : Bool) (os ts us : List Offence) → IsTrue a ↔ StoresOver j p (IsCcwByte j)
    → IsTrue b ↔ StoresOver j p (IsArgumentByte j) → AddsOffences (λ _ t. (t ≡ ChangesCcw) × IsTrue a) p os ts
    → AddsOffences (λ _ t. (t ≡ ChangesArgument) × IsTrue b) p ts us → AddsOffences (ChangesGuarded j) p os us
adds_changes j p a b os ts us f g one other =
    adds_both (λ _ t. (t ≡ ChangesCcw) × IsTrue a) (λ _ t. (t ≡ ChangesArgument) × IsTrue b) (ChangesGuarded j) p os ts us one other (λ r. (to r, from r)) never
  where
    to : (r : Reason) → ChangesGuarded j p r → ((r ≡ ChangesCcw) × IsTrue a) ⊎ ((r ≡ ChangesArgument) × IsTrue b)
    to r (inl h) = inl (h.0, f.1 h.1)
    to r (inr h) = inr (h.0, g.1 h.1)

    from : (r : Reason) → ((r ≡ ChangesCcw) × IsTrue a) ⊎ ((r ≡ ChangesArgument) × IsTrue b) → ChangesGuarded j p r
    from r (inl h) = inl (h.0, f.0 h.1)
    from r (inr h) = inr (h.0, g.0 h.1)

    never : (r : Reason) → (r ≡ ChangesCcw) × IsTrue a → (r ≡ ChangesArgument) × IsTrue b → ⊥
    never r h k = let same : ◌≡◌ {A = Reason} ChangesCcw ChangesArgument = sym h.0 ∙ k.0 in cc

-- ---- all of them

-- an own fault counts
pub fault_offences : (j : Job) (ps : List Place) (os : List Offence) → AreReached j ps
    → HasOffences (HasOwnFault j) ps os → (t : Offence) → Has os t → (o : Offence) → Has os o ↔ Offending j o
fault_offences j ps os r h t k o = ((λ m. let z = (h.exactly o).0 m in (r.1 o.place z.0, inl z.1)), λ z. (h.exactly o).1 (r.0 o.place z.0, go z.1))
  where
    go : Offends j o.place o.reason → HasOwnFault j o.place o.reason
    go (inl f) = f
    go (inr g) = let z = (h.exactly t).0 k in absurd (not_clear j t.place t.reason z.1 (r.1 t.place z.0) g.0)

-- where there is none, the changes do
pub no_faults : (j : Job) (ps : List Place) (os : List Offence) → AreReached j ps
    → HasOffences (HasOwnFault j) ps os → os ≡ [] → (p : Place) (t : Reason) → IsReachable j p → HasOwnFault j p t → ⊥
no_faults j ps os r h e p t m f = subst (λ z. Has z (offence p t)) e ((h.exactly (offence p t)).1 (r.0 p m, f))

pub change_offences : (j : Job) (ps : List Place) (os : List Offence) → AreReached j ps
    → ((p : Place) (t : Reason) → IsReachable j p → HasOwnFault j p t → ⊥) → HasOffences (ChangesGuarded j) ps os → (o : Offence) → Has os o ↔ Offending j o
change_offences j ps os r none h o = (
  (λ m. let z = (h.exactly o).0 m in (r.1 o.place z.0, inr (clear_all j none, z.1))),
  λ z. (h.exactly o).1 (r.0 o.place z.0, change_of j none o.place o.reason z.0 z.1),
)

-- the own fault of a place, and none
pub added_fault : (j : Job) (p : Place) (r : Reason) (os ts : List Offence)
    → ts ≡ os ++ offence p r ∷ [] → HasFault j p (Some r) → AddsOffences (HasOwnFault j) p os ts
added_fault j p r os ts e f = adds_one (HasOwnFault j) p r os ts e f only
  where
    only : (t : Reason) → HasOwnFault j p t → r ≡ t
    only t k = let d : ◌≡◌ {A = Option Reason} (Some r) (Some t) = fault_unique j p (Some r) (Some t) f k in cc

pub unadded_fault : (j : Job) (p : Place) (os ts : List Offence) → ts ≡ os → (o : Option Reason)
    → ((r : Reason) → o ≡ Some r → ⊥) → HasFault j p o → AddsOffences (HasOwnFault j) p os ts
unadded_fault j p os ts e (Some r) n f = absurd (n r refl)
unadded_fault j p os ts e None n f = adds_none (HasOwnFault j) p os ts e none
  where
    none : (t : Reason) → HasOwnFault j p t → ⊥
    none t k = let d : ◌≡◌ {A = Option Reason} None (Some t) = fault_unique j p None (Some t) f k in cc

-- a list of no length, and one of some
pub some_offence : (os : List Offence) (n : ℕ) (b : Bool) → n ≡ length os → b ≡ (n == 0) → b ≡ false → (t : Offence) × Has os t
some_offence [] n b l e f = absurd (both_ways (n == 0) (sym e ∙ f) (eq-eqb n 0 l))
some_offence (o ∷ os) n b l e f = (o, inl refl)

pub no_offence : (os : List Offence) (n : ℕ) (b : Bool) → n ≡ length os → b ≡ (n == 0) → b ≡ true → os ≡ []
no_offence os n b l e f = grind (arith, common_steps, eqb-true)

-- the same offences in order
pub put_in_order : (j : Job) (os ts : List Offence) → AreAllOffences j os
    → IsStrictlyIncreasing (map offence_number ts) → ((o : Offence) → Has ts o ↔ Has os o) → AreOffences j ts
put_in_order j os ts all up same = record { ordered = up; each = λ o h. (same o).1 ((all.exactly o).1 h); only = λ o h. (all.exactly o).0 ((same o).0 h) }
