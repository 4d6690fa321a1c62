-- What a store changes, among the places that were looked at.
use Rattle.chan_why.proofs.Names.{[], Area, arith, begins_seek, cases_lt, ccw_of, ccw_seen, clear_stands, end_of, Evidence, false, Fields, get_or, GuardAreas, Guards, HasFound, inl, inr, IsArgumentByte, IsArgumentByteOf, IsArgumentIn, IsByteIn, IsEvidenceAt, IsCcwByte, IsCcwIn, IsClear, IsFirstWhere, IsLeastOf, IsLeastOrNone, IsLook, IsPathAt, IsSecondPathEnd, IsSome, Job, length, lies_in, List, None, Option, Place, place_at, places_of_looks, refl, rules, Seen, Some, storage_of, subst, sym, true, whole_of, ℕ, ◌%◌, ◌+◌, ◌-◌, ◌<◌, ◌↔◌, ◌≡◌, ◌≤◌, ◌⊎◌}
use Rattle.std.proofs.lemmas.Bool.{cases_Bool, eqb-true}
use Rattle.chan_walk.specs.declared.evidence.Evidence.TheVariants as because
use Rattle.ccw_core.specs.Storage.{Stands, is_aligned}
use Rattle.chan_walk.specs.declared.argument.GivenBytes.{GivenBytes}
use Rattle.chan_walk.specs.Evidence.{IsArgumentAt}
use Rattle.chan_why.specs.Evidence.{IsSecondPath, IsTakenAt}
use Rattle.chan_walk.specs.declared.argument.Operand.{Operand}
use Rattle.chan_walk.specs.declared.argument.Operand.TheVariants as operand
use Rattle.chan_walk.specs.Fault.{begins_set_mask}
use Rattle.chan_walk.specs.Operand.{IsOperand}
use Rattle.chan_why.proofs.Backward.{within_looks}
use Rattle.chan_why.proofs.Finding.{best_where, path_where, reached_at}
use Rattle.chan_walk.proofs.Theory.Found.{seek_or_mask}

-- ---- the least address of a CCW

-- a multiple of 8, from a byte of the eight from it on
round_down : (a b : ℕ) → a % 8 ≡ 0 → a ≤ b → b < a + 8 → b - b % 8 ≡ a
round_down a b e f g = omega (arith, e)

least_round : (a b : ℕ) → a % 8 ≡ 0 → b < a + 8 → b - b % 8 ≤ a
least_round a b e g = omega (arith, e)

aligned : (s : List ℕ) (a : ℕ) → Stands s a → a % 8 ≡ 0
unfolding is_aligned
aligned s a h = search (rules, eqb-true)

module _ (j : Job) (areas : List Area) (g : (b : ℕ) → (lies_in areas b ≡ true) ↔ IsCcwByte j b) (r : Area) where
  -- a CCW of which the data has a byte has a first byte there
  ccw_byte : (a : ℕ) → IsCcwIn j r a → (b : ℕ) × IsByteIn areas r.start r.len b × (b < a + 8)
  ccw_byte a m = go (cases_lt r.start a)
    where
      from : (b : ℕ) → r.start ≤ b → b < end_of r → a ≤ b → b < a + 8 → (b : ℕ) × IsByteIn areas r.start r.len b × (b < a + 8)
      from b h k c d =
          let here : m.place.address ≡ a = m.address in
          let stands : Stands (storage_of j) m.place.address = subst (Stands (storage_of j)) (sym m.address) m.stands in
          let there : IsCcwByte j b =
          record { place = m.place; reached = m.reached; stands = stands; from = omega (arith, here); below = omega (arith, here) } in
          (b, (h, k, (g b).1 there), d)

      go : (r.start < a) ⊎ (a ≤ r.start) → (b : ℕ) × IsByteIn areas r.start r.len b × (b < a + 8)
      go (inl c) = from a (omega arith) m.below (omega arith) (omega arith)
      go (inr c) = from r.start (omega arith) (omega (arith, m.filled)) c m.from

  pub one_ccw : (o : Option ℕ) → IsLeastOrNone (IsByteIn areas r.start r.len) o → (a : ℕ) × IsCcwIn j r a → IsSome o
  one_ccw None n k = let b = ccw_byte k.0 k.1 in absurd (n b.0 b.1)
  one_ccw (Some b) n k = refl

  pub least_ccw : (b : ℕ) → IsLeastOf (IsByteIn areas r.start r.len) b → IsLeastOf (IsCcwIn j r) (b - b % 8)
  least_ccw b m =
      let c = (g b).0 m.0.2 in
      let e = round_down c.place.address b (aligned (storage_of j) c.place.address c.stands) c.from c.below in (
        subst (IsCcwIn j r) (sym e) (record {
          place = c.place;
          reached = c.reached;
          address = refl;
          stands = c.stands;
          filled = omega (arith, m.0.0, m.0.1);
          from = let f = c.below in omega (arith, m.0.0);
          below = let f = c.from in omega (arith, m.0.1);
        }),
        bound,
      )
    where
      bound : (a : ℕ) → IsCcwIn j r a → b - b % 8 ≤ a
      bound a k =
          let x = ccw_byte a k in
          let le = m.1 x.0 x.1 in
          least_round a b (aligned (storage_of j) a k.stands) (omega (arith, x.2))

-- ---- the place that takes an argument

takes_clear : (j : Job) (q : Place) (b : ℕ) → IsArgumentByteOf j q b → IsClear j q
takes_clear j q b h = search rules

takes_of : (j : Job) (b : ℕ) (m : IsArgumentByte j b) → IsArgumentByteOf j m.place b
takes_of j b m = search rules

-- where Set File Mask begins, no seek does
sets_only : (p : Place) (c : Fields) → begins_set_mask p c ≡ true → begins_seek p c ≡ false
sets_only p c h = search (rules, seek_or_mask, cases_Bool)

-- what was read at a place that takes a byte is its argument, if it is a seek's
argument_taken : (j : Job) (p : Place) (b : ℕ) (r : Operand) → IsOperand (storage_of j) p (ccw_of j p) r → IsArgumentByteOf j p b
    → IsArgumentAt j p (whole_of r)
argument_taken j p b operand.Nothing h (inl k) = h.0
argument_taken j p b operand.Nothing h (inr m) = h.0
argument_taken j p b (operand.Short g) h (inl k) = absurd (h.1.0 k.1.chain k.1.is_chain)
argument_taken j p b (operand.Short g) h (inr m) = absurd (seek_or_mask p (ccw_of j p) h.0 m.1.sets)
argument_taken j p b (operand.Whole g) h k = (h.0, h.1)
argument_taken j p b (operand.Mask at x) h k = sets_only p (ccw_of j p) h.0

pub taken_whole : (j : Job) (l : Seen) → IsLook j l → (b : ℕ) (o : Option GivenBytes)
    → o ≡ whole_of l.operand → IsArgumentByteOf j l.place b → IsArgumentAt j l.place o
taken_whole j l look b o e takes =
    let c = ccw_seen j l look (clear_stands j l.place (takes_clear j l.place b takes)) in
    subst (IsArgumentAt j l.place) (sym e) (argument_taken j l.place b l.operand (look.operand (takes_clear j l.place b takes) (ccw_of j l.place) c) takes)

-- the guarded bytes of arguments are those in the guard's areas
module _ (j : Job) (areas : List Area) (g : (b : ℕ) → (lies_in areas b ≡ true) ↔ IsArgumentByte j b) (r : Area) where
  to_argument : (b : ℕ) → IsByteIn areas r.start r.len b → IsArgumentIn j r b
  to_argument b h = record { from = h.0; below = h.1; argument = (g b).0 h.2 }

  from_argument : (b : ℕ) → IsArgumentIn j r b → IsByteIn areas r.start r.len b
  from_argument b h = (h.from, h.below, (g b).1 h.argument)

  pub least_argument : (b : ℕ) → IsLeastOf (IsByteIn areas r.start r.len) b → IsLeastOf (IsArgumentIn j r) b
  least_argument b m = (to_argument b m.0, λ d k. m.1 d (from_argument d k))

  pub one_argument : (o : Option ℕ) → IsLeastOrNone (IsByteIn areas r.start r.len) o → (b : ℕ) × IsArgumentIn j r b → IsSome o
  one_argument None n k = absurd (n k.0 (from_argument k.0 k.1))
  one_argument (Some b) n k = refl

module _ (j : Job) (ls : List Seen) (fs : List ℕ) (f : HasFound j ls fs) where
  pub one_taker : (b : ℕ) (o : Option ℕ) → IsArgumentByte j b → IsFirstWhere (λ q. IsArgumentByteOf j q b) (places_of_looks ls) o → IsSome o
  one_taker b None m n = absurd (reached_at j ls fs f (λ q. IsArgumentByteOf j q b) n m.place m.reached (takes_of j b m))
  one_taker b (Some i) m n = refl

  pub taken_at : (b i a : ℕ) (argument : Option GivenBytes) (l : Seen) → IsFirstWhere (λ q. IsArgumentByteOf j q b) (places_of_looks ls) (Some i)
      → i < length ls → l ≡ get_or ls i l → a ≡ l.place.address → (IsArgumentByteOf j l.place b → IsArgumentAt j l.place argument) → IsTakenAt j b a argument
  taken_at b i a argument l n h e address is =
      let r = best_where j ls fs f (λ q. IsArgumentByteOf j q b) i l.place n (place_at ls i l h e) in
      (l.place, r.0, r.1, sym address, is r.1.holds)

-- the index found is one of the list
pub first_within : (P : Place → Type 0) (ls : List Seen) (i : ℕ) → IsFirstWhere P (places_of_looks ls) (Some i) → i < length ls
first_within P ls i h = within_looks ls h.0.0 i h.0.1

-- ---- the second path

module _ (j : Job) (ls : List Seen) (fs : List ℕ) (f : HasFound j ls fs) where
  pub second_found : (e : Evidence) (i : ℕ) (places : List Place) → IsSecondPathEnd j e (places_of_looks ls) (Some i)
      → IsPathAt j (places_of_looks ls) i places → IsSecondPath j e places
  second_found (because.ChangesCcw d a) i places n at = path_where j ls fs f (λ q. q.address ≡ a) i places n at
  second_found (because.ChangesArgument d b t s) i places n at = path_where j ls fs f (λ q. IsArgumentByteOf j q b) i places n at
  second_found e i places n at = absurd (cc)

  pub none_found : (e : Evidence) (p : Place) (places : List Place) → IsEvidenceAt j p e
      → IsSecondPathEnd j e (places_of_looks ls) None → places ≡ [] → IsSecondPath j e places
  none_found (because.ChangesCcw d a) p places h n is = absurd (reached_at j ls fs f (λ q. q.address ≡ a) n h.1.0.place h.1.0.reached h.1.0.address)
  none_found (because.ChangesArgument d b t s) p places h n is =
      absurd (reached_at j ls fs f (λ q. IsArgumentByteOf j q b) n h.1.0.argument.place h.1.0.argument.reached (takes_of j b h.1.0.argument))
  none_found e p places h n is = is

  pub changed_within : (e : Evidence) (i : ℕ) → IsSecondPathEnd j e (places_of_looks ls) (Some i) → i < length ls
  changed_within (because.ChangesCcw d a) i n = first_within (λ q. q.address ≡ a) ls i n
  changed_within (because.ChangesArgument d b t s) i n = first_within (λ q. IsArgumentByteOf j q b) ls i n
  changed_within e i n = absurd (cc)

-- ---- as they are found

pub found_least : (j : Job) (g : GuardAreas) → Guards j g → (areas : List Area) → areas ≡ g.arguments → (r : Area) (o : Option ℕ) (b : ℕ) → o ≡ Some b
    → IsLeastOrNone (λ b. IsByteIn areas r.start r.len b) o → IsLeastOf (IsArgumentIn j r) b
found_least j g guards areas same r o b is n =
    least_argument j g.arguments guards.arguments r b (subst (λ (o : Option ℕ). IsLeastOrNone (λ b. IsByteIn g.arguments r.start r.len b) o) is
    (subst (λ (xs : List Area). IsLeastOrNone (λ b. IsByteIn xs r.start r.len b) o) same n))
