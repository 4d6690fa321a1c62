-- Where the verdict is yes, only guarded bytes count, and as these never change, it is yes again.
use Rattle.chan_walk.proofs.Names.{ap, at_once, begins_seek, byte, bytes_held, ccw, ccw_of, chained, ChainLeads, ChainOut, chains_data, false, Fields, further, inl, inr, is_part, is_transfer, IsChained, IsGuarded, IsReachable, IsSameIn, IsVerdict, IsVerdictByte, Job, kind_of, length, Outward, Place, refl, rules, storage_of, straight_to, subst, sym, transferred_to, true, with_storage, Yes, ℕ, ◌+◌, ◌∙◌, ◌≡◌}
use Rattle.chan_walk.specs.VerdictBytes.{SafeSinceAsked, YesByGuarded, YesStays}
use Rattle.chan_walk.proofs.Theory.Chains.{part_is_no_transfer}
use Rattle.chan_walk.proofs.Algorithms.VerdictBytes.{carries_at, same_verdict}
use Rattle.chan_walk.proofs.Machine.Exact.{sparing_less}
use Rattle.chan_walk.proofs.Theory.Transport.{same_guarded}
use Rattle.chan_walk.proofs.Theory.Faults.{yes_clear}
use Rattle.chan_walk.proofs.Theory.Follows.{by_transfer, by_data}
use Rattle.chan_walk.proofs.Machine.Yes.{fresh_out, all_kept, onward, yes_is_safe_among}

module _ (j : Job) (v : IsVerdict j Yes) where
  -- a reachable place at the address, at which an operation that goes out begins or goes on
  record Out (a : ℕ) : Type 0 where
    place : Place
    reached : IsReachable j place
    address : place.address ≡ a
    outward : kind_of place.entered (ccw_of j place) ≡ Outward

  one_on : {from to : ℕ} → Out from → is_part (storage_of j) from ≡ true → chains_data (ccw (storage_of j) from) ≡ true → ChainLeads (storage_of j) from to
      → Out to
  one_on {from = from} {to = to} here part cd lead = go lead
    where
      other : is_transfer (ccw_of j here.place) ≡ false
      other = subst (λ n. is_transfer (ccw (storage_of j) n) ≡ false) (sym here.address) (part_is_no_transfer (storage_of j) from part)

      next : Place
      next = straight_to (here.place.address + 8) ChainOut

      reached : IsReachable j next
      reached =
          onward j v here.place next here.reached
          (by_data other (subst (λ n. chains_data (ccw (storage_of j) n) ≡ true) (sym here.address) cd) (ap chained here.outward))

      go : ChainLeads (storage_of j) from to → Out to
      go (inl e) = record { place = next; reached = reached; address = ap (λ n. n + 8) here.address ∙ sym e; outward = refl }
      go (inr e) =
          let same : ccw (storage_of j) (from + 8) ≡ ccw_of j next = ap (λ n. ccw (storage_of j) (n + 8)) (sym here.address) in
          let there : Place = transferred_to (ccw_of j next).address ChainOut in
          record {
            place = there;
            reached = onward j v next there reached (by_transfer (subst (λ c. is_transfer c ≡ true) same e.1));
            address = sym (subst (λ (c : Fields). to ≡ c.address) same e.2);
            outward = refl;
          }

  -- the data chain of a reachable seek is reachable
  along : (seek : Place) → IsReachable j seek → begins_seek seek (ccw_of j seek) ≡ true → {a : ℕ} → IsChained (storage_of j) seek.address a → Out a
  along seek r b at_once = record { place = seek; reached = r; address = refl; outward = fresh_out seek (ccw_of j seek) b }
  along seek r b (further c part cd lead) = one_on (along seek r b c) part cd lead

  pub verdict_byte_is_guarded : (b : ℕ) → IsVerdictByte j b → IsGuarded j b
  verdict_byte_is_guarded b h = search (rules, along, yes_clear)

pub yes_by_guarded : YesByGuarded
yes_by_guarded j t v h = ((same_verdict j t (record { same_length = h.same_length; same = λ b c. h.same b (verdict_byte_is_guarded j v b c) })).1 Yes).0 v

pub safe_since_asked : SafeSinceAsked
safe_since_asked j t mask v h =
    let k = with_storage j t in
    let counted : IsSameIn (IsVerdictByte j) (storage_of j) (bytes_held t) =
    record { same_length = h.same_length; same = λ b c. h.same b (verdict_byte_is_guarded j v b c) } in
    let among = yes_is_safe_among k mask (yes_by_guarded j t v h) in
    let spared = sparing_less (IsGuarded j) (IsGuarded k) (λ b g. (same_guarded j k refl (carries_at j t counted) b).1 g) k in
    (λ run r. among.0 run (spared run r), λ used run b r u s. among.1 used run b (spared used r) u (spared run s))

pub yes_stays : YesStays
yes_stays j v =
    all_kept j v _ (λ m k t e. yes_by_guarded j t v (record { same_length = ap length e ∙ k.same_length; same = λ b g. ap (λ s. byte s b) e ∙ k.same b g }))
