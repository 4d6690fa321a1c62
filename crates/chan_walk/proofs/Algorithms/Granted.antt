-- Two jobs of one program that grant the same: everything that the verdict asks is the same.
use Rattle.chan_walk.proofs.Names.{ap, AreOfOneProgram, Bool, byte, ccw_of, cond, covered, extents_of, false, fault_with, fetch_of, Fields, first_reason, GrantsMore, has_cylinder, HasArgument, HasFault, if◌then◌else◌, inhibits, is_at_least, is_refused, is_transfer, IsReachable, IsVerdict, Job, length, List, None, Option, option_or, Place, program_check, Reason, refl, rules, Some, storage_of, store_of, subst, sym, table_of_own, true, Verdict, ℕ, ◌+◌, ◌↔◌, ◌∙◌, ◌≡◌, ◌≤◌}
use Rattle.chan_walk.proofs.Theory.Granting.{turned, ccw_over, carries, same_first, covered_more, refused_more}
use Rattle.chan_walk.proofs.Theory.Transport.{CarriesOver, same_reached, same_verdicts}
use Rattle.chan_walk.proofs.Theory.OwnFaults.{data_in_storage}
use Rattle.chan_walk.proofs.Theory.Masks.{laxer_permits, strict_as_laxer}

alike : (a b : Bool) → (a ≡ true → b ≡ true) → (b ≡ true → a ≡ true) → a ≡ b
alike a b h k = search rules

alike_false : (a b : Bool) → (a ≡ false → b ≡ false) → (b ≡ false → a ≡ false) → a ≡ b
alike_false a b h k = search rules

module _ (j k : Job) (one : AreOfOneProgram j k) (more : GrantsMore j k) (less : GrantsMore k j) where
  table_alike : (p : Place) (c : Fields) (x : Option (List ℕ)) → c.address + c.count ≤ length (storage_of j) → table_of_own j p c x ≡ table_of_own k p c x
  table_alike p c x fits =
      let there : c.address + c.count ≤ length (storage_of k) = subst (λ s. c.address + c.count ≤ length s) one.storage fits in
      let back = turned j k one in
      let permit : inhibits j.mask c.command ≡ inhibits k.mask c.command =
      alike_false _ _ (laxer_permits j.mask k.mask c.command more.mask) (laxer_permits k.mask j.mask c.command less.mask) in
      let stored : covered (store_of j) c.address c.count ≡ covered (store_of k) c.address c.count =
      alike _ _ (covered_more j k one more (store_of j) (store_of k) _ _ _ more.store fits)
      (covered_more k j back less (store_of k) (store_of j) _ _ _ less.store there) in
      let fetched : covered (fetch_of j) c.address c.count ≡ covered (fetch_of k) c.address c.count =
      alike _ _ (covered_more j k one more (fetch_of j) (fetch_of k) _ _ _ more.fetch fits)
      (covered_more k j back less (fetch_of k) (fetch_of j) _ _ _ less.fetch there) in
      let refuse : is_refused j x ≡ is_refused k x = alike_false _ _ (refused_more j k one more x) (refused_more k j back less x) in
      let home : has_cylinder (extents_of j) 0 ≡ has_cylinder (extents_of k) 0 = alike _ _ (more.extents 0) (less.extents 0) in
      let strict : is_at_least (byte (storage_of j) c.address) j.mask ≡ is_at_least (byte (storage_of k) c.address) k.mask =
      alike _ _ (λ h. strict_as_laxer _ j.mask k.mask h more.mask) (λ h. strict_as_laxer _ k.mask j.mask h less.mask)
      ∙ ap (λ s. is_at_least (byte s c.address) k.mask) one.storage in
      rw (permit, stored, fetched, refuse, home, strict) refl

  rest_alike : (p : Place) (x : Option (List ℕ)) → program_check (storage_of j) p ≡ None
      → (if is_transfer (ccw_of j p) then None else first_reason (table_of_own j p (ccw_of j p) x))
      ≡ (if is_transfer (ccw_of k p) then None else first_reason (table_of_own k p (ccw_of k p) x))
  rest_alike p x e = go (is_transfer (ccw_of j p)) refl ∙ ap (λ c. if is_transfer c then None else first_reason (table_of_own k p c x)) (ccw_over j k one p)
    where
      go : (b : Bool) → is_transfer (ccw_of j p) ≡ b
          → cond b None (first_reason (table_of_own j p (ccw_of j p) x)) ≡ cond b None (first_reason (table_of_own k p (ccw_of j p) x))
      go true t = refl
      go false t = ap first_reason (table_alike p (ccw_of j p) x (data_in_storage (storage_of j) p (ccw_of j p) e refl t))

  fault_alike : (p : Place) (x : Option (List ℕ)) → fault_with j p x ≡ fault_with k p x
  fault_alike p x = go (program_check (storage_of j) p) refl
    where
      checks : program_check (storage_of j) p ≡ program_check (storage_of k) p
      checks = ap (λ s. program_check s p) one.storage

      rest : Job → Option Reason
      rest i = if is_transfer (ccw_of i p) then None else first_reason (table_of_own i p (ccw_of i p) x)

      go : (o : Option Reason) → program_check (storage_of j) p ≡ o → option_or (program_check (storage_of j) p) (rest j)
          ≡ option_or (program_check (storage_of k) p) (rest k)
      go (Some q) e = ap (λ o. option_or o (rest j)) e ∙ sym (ap (λ o. option_or o (rest k)) (sym checks ∙ e))
      go None e = ap (λ o. option_or o (rest j)) checks ∙ ap (λ r. option_or (program_check (storage_of k) p) r) (rest_alike p x e)

  pub fault_over : (p : Place) (r : Option Reason) → HasFault j p r ↔ HasFault k p r
  fault_over p r = (
    (λ f. (f.0, subst (λ s. HasArgument s p.address f.0) one.storage f.1, sym (fault_alike p f.0) ∙ f.2)),
    λ f. (f.0, subst (λ s. HasArgument s p.address f.0) (sym one.storage) f.1, fault_alike p f.0 ∙ f.2),
  )

  carry : (p : Place) → IsReachable j p → IsReachable k p → CarriesOver j k p × CarriesOver k j p
  carry p m n = let f = fault_over p None in (carries j k one p f.0, carries k j (turned j k one) p f.1)

  pub same_by_grants : ((p : Place) → IsReachable j p ↔ IsReachable k p) × ((v : Verdict) → IsVerdict j v ↔ IsVerdict k v)
  same_by_grants = (same_reached j k (same_first j k one) carry, same_verdicts j k (same_first j k one) carry (λ p m r. fault_over p (Some r)))
