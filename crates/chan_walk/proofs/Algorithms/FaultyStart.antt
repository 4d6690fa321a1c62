-- Which bytes count for the verdict at most: where the first CCW has an own fault, no others.
use Rattle.chan_walk.proofs.Names.{[], begins_seek, begins_set_mask, both_ways, ccw_of, false, first_place, HasFault, inl, inr, IsCcwByte, IsClear, IsPath, IsReachable, IsVerdictByte, Job, List, None, Option, Place, Reason, Some, storage_of, subst, TakesArgumentByte, true, ℕ, ◌+◌, ◌<◌, ◌∷◌, ◌≡◌, ◌≤◌, ◌⊎◌}
use Rattle.chan_walk.specs.VerdictBytes.{FaultyStartIsAll, VerdictByteIsOfCcw}
use Rattle.chan_walk.proofs.Theory.Faults.{fault_unique}

module _ (j : Job) (r : Reason) (faulty : HasFault j (first_place j) (Some r)) where
  not_clear : IsClear j (first_place j) → ⊥
  not_clear clear =
      let bad : ◌≡◌ {A = Option Reason} None (Some r) = fault_unique j (first_place j) None (Some r) clear faulty in absurd cc

  only_first : (ps : List Place) (p : Place) → IsPath j (p ∷ ps) → p ≡ first_place j
  only_first [] p e = e
  only_first (q ∷ qs) p e = absurd (not_clear (subst (IsClear j) (only_first qs q e.0) e.1))

  reached_first : (p : Place) → IsReachable j p → p ≡ first_place j
  reached_first p reached = only_first reached.0 p reached.1

  module _ (seek : begins_seek (first_place j) (ccw_of j (first_place j)) ≡ false)
      (mask : begins_set_mask (first_place j) (ccw_of j (first_place j)) ≡ false) where
    no_seek : (p : Place) → IsReachable j p → begins_seek p (ccw_of j p) ≡ true → ⊥
    no_seek p reached seeks = both_ways _ seek (subst (λ q. begins_seek q (ccw_of j q) ≡ true) (reached_first p reached) seeks)

    no_mask : (p : Place) → IsReachable j p → begins_set_mask p (ccw_of j p) ≡ true → ⊥
    no_mask p reached sets = both_ways _ mask (subst (λ q. begins_set_mask q (ccw_of j q) ≡ true) (reached_first p reached) sets)

    takes_none : (p : Place) (b : ℕ) → IsReachable j p → TakesArgumentByte (storage_of j) p b → ⊥
    takes_none p b reached (inl seeks) = no_seek p reached seeks.seeks
    takes_none p b reached (inr sets) = no_mask p reached sets.sets

    of_ccw : (b : ℕ) → IsCcwByte j b → (j.start ≤ b) × (b < j.start + 8)
    of_ccw b h =
        subst (λ (q : Place). (q.address ≤ b) × (b < q.address + 8)) (reached_first h.place h.reached) (h.from, h.below)

    counted : (b : ℕ) → IsVerdictByte j b → (j.start ≤ b) × (b < j.start + 8)
    counted b (inl h) = of_ccw b h
    counted b (inr (inl h)) = absurd (no_seek h.seek h.reached h.seeks)
    counted b (inr (inr h)) = absurd (takes_none h.place b h.reached h.takes)

pub faulty_start_is_all : FaultyStartIsAll
faulty_start_is_all j r b faulty seek mask h = counted j r faulty seek mask b h

pub verdict_byte_is_of_ccw : VerdictByteIsOfCcw
verdict_byte_is_of_ccw j b (inl ccw) = inl ccw
verdict_byte_is_of_ccw j b (inr (inl chain)) = inr (chain.seek, chain.reached, inl chain.seeks)
verdict_byte_is_of_ccw j b (inr (inr taken)) = inr (taken.place, taken.reached, takes taken.takes)
  where
    takes : TakesArgumentByte (storage_of j) taken.place b
        → (begins_seek taken.place (ccw_of j taken.place) ≡ true) ⊎ (begins_set_mask taken.place (ccw_of j taken.place) ≡ true)
    takes (inl seek) = inl seek.seeks
    takes (inr mask) = inr mask.sets
