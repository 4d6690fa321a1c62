-- From one job to another: what the verdict asks of the places that both reach carries over.
use Rattle.chan_walk.proofs.Names.{[], AreClear, Bool, ccw_of, ChangesGuarded, data_of, end_of, Fields, first_place, HasFault, inl, inr, IsArgumentByte, IsCcwByte, IsClear, IsDataOf, IsGuarded, IsPath, IsReachable, IsVerdict, Job, kind_of, List, next_of, No, Offends, Place, Reason, rules, skip_of, Some, Stands, storage_of, StoresOver, subst, sym, TakesArgumentByte, true, Verdict, Yes, ℕ, ◌<◌, ◌↔◌, ◌∙◌, ◌∷◌, ◌≡◌, ◌≤◌, ◌⊎◌}

-- what the verdict asks of p carries over from j to k
pub record CarriesOver (j k : Job) (p : Place) : Type 0 where
  pub stands : Stands (storage_of j) p.address → Stands (storage_of k) p.address
  pub clear : IsClear j p → IsClear k p
  pub ccw : IsClear j p → ccw_of j p ≡ ccw_of k p
  pub takes : IsClear j p → (b : ℕ) → TakesArgumentByte (storage_of j) p b → TakesArgumentByte (storage_of k) p b

-- q comes after p, whose CCW is c
abbrev pub LeadsByCcw : Place → Place → Fields → Type 0
LeadsByCcw p q c = (next_of p c (kind_of p.entered c) ≡ Some q) ⊎ (skip_of p c (kind_of p.entered c) ≡ Some q)

module _ (j k : Job) (first : first_place j ≡ first_place k) (over : (p : Place) → IsReachable j p → IsReachable k p → CarriesOver j k p) where
  path_over : (ps : List Place) → IsPath j ps → IsPath k ps
  path_over [] e = e
  path_over (p ∷ []) e = e ∙ first
  path_over (q ∷ p ∷ ps) e =
      let before = path_over (p ∷ ps) e.0 in
      let here = over p (ps, e.0) (ps, before) in
      (before, here.clear e.1, subst (LeadsByCcw p q) (here.ccw e.1) e.2)

  pub reach_over : (p : Place) → IsReachable j p → IsReachable k p
  reach_over p r = (r.0, path_over (p ∷ r.0) r.1)

module _ (j k : Job) (on : (p : Place) → IsReachable j p → IsReachable k p × CarriesOver j k p) where
  ccw_byte_over : (b : ℕ) → IsCcwByte j b → IsCcwByte k b
  ccw_byte_over b g =
      let here = on g.place g.reached in
      record { place = g.place; reached = here.0; stands = here.1.stands g.stands; from = g.from; below = g.below }

  argument_byte_over : (b : ℕ) → IsArgumentByte j b → IsArgumentByte k b
  argument_byte_over b g =
      let here = on g.place g.reached in
      record { place = g.place; reached = here.0; clear = here.1.clear g.clear; takes = here.1.takes g.clear b g.takes }

  guarded_over : (b : ℕ) → IsGuarded j b → IsGuarded k b
  guarded_over b (inl g) = inl (ccw_byte_over b g)
  guarded_over b (inr g) = inr (argument_byte_over b g)

  data_over : AreClear j → (test : Place → Fields → Bool) (b : ℕ) → IsDataOf test j b → IsDataOf test k b
  data_over clear test b d =
      let here = on d.place d.reached in
      let same : ccw_of j d.place ≡ ccw_of k d.place = here.1.ccw (clear d.place d.reached) in
      record {
        place = d.place;
        reached = here.0;
        passes = (here.1.stands d.passes.0, subst (λ c. test d.place c ≡ true) same d.passes.1);
        from = subst (λ c. (data_of c).start ≤ b) same d.from;
        below = subst (λ c. b < end_of (data_of c)) same d.below;
      }

  stores_over : (p : Place) → ccw_of j p ≡ ccw_of k p → (P Q : ℕ → Type 0) → ((b : ℕ) → P b → Q b) → StoresOver j p P → StoresOver k p Q
  stores_over p same P Q f o = search rules

  pub changes_over : (p : Place) (r : Reason) → IsReachable j p → IsClear j p → ChangesGuarded j p r → ChangesGuarded k p r
  changes_over p r m clear (inl o) = inl (o.0, stores_over p ((on p m).1.ccw clear) _ _ ccw_byte_over o.1)
  changes_over p r m clear (inr o) = inr (o.0, stores_over p ((on p m).1.ccw clear) _ _ argument_byte_over o.1)

  offends_over : ((p : Place) → IsReachable k p → IsReachable j p)
      → ((p : Place) → IsReachable j p → (r : Reason) → HasFault j p (Some r) → HasFault k p (Some r))
      → (p : Place) → IsReachable j p → (r : Reason) → Offends j p r → Offends k p r
  offends_over back fault p m r (inl f) = inl (fault p m r f)
  offends_over back fault p m r (inr (clear, c)) = inr ((λ q n. let l = back q n in (on q l).1.clear (clear q l)), changes_over p r m (clear p m) c)

-- what is reachable under j is so under k, and offends there by the same reasons
abbrev Offend : Job → Job → Type 0
Offend j k = (p : Place) → IsReachable j p → IsReachable k p × ((r : Reason) → Offends j p r → Offends k p r)

verdict_over : (j k : Job) → Offend j k → Offend k j → (v : Verdict) → IsVerdict j v → IsVerdict k v
verdict_over j k on back Yes v = λ p r n o. let m = back p n in v p r m.0 (m.1 r o)
verdict_over j k on back (No a r) v =
    let there = on v.0.place v.0.reached in (
      record { place = v.0.place; reached = there.0; address = v.0.address; offends = there.1 r v.0.offends },
      λ p x n o. let m = back p n in v.1 p x m.0 (m.1 x o),
    )

-- ---- both ways

module _ (j k : Job) (first : first_place j ≡ first_place k)
    (both : (p : Place) → IsReachable j p → IsReachable k p → CarriesOver j k p × CarriesOver k j p) where
  pub same_reached : (p : Place) → IsReachable j p ↔ IsReachable k p
  same_reached p = (reach_over j k first (λ p m n. (both p m n).0) p, reach_over k j (sym first) (λ p n m. (both p m n).1) p)

  on : (p : Place) → IsReachable j p → IsReachable k p × CarriesOver j k p
  on p m = let n = (same_reached p).0 m in (n, (both p m n).0)

  back : (p : Place) → IsReachable k p → IsReachable j p × CarriesOver k j p
  back p n = let m = (same_reached p).1 n in (m, (both p m n).1)

  pub same_guarded : (b : ℕ) → IsGuarded j b ↔ IsGuarded k b
  same_guarded b = (guarded_over j k on b, guarded_over k j back b)

  pub same_data : AreClear j → AreClear k → (test : Place → Fields → Bool) (b : ℕ) → IsDataOf test j b ↔ IsDataOf test k b
  same_data c d test b = (data_over j k on c test b, data_over k j back d test b)

  module _ (fault : (p : Place) → IsReachable j p → (r : Reason) → HasFault j p (Some r) ↔ HasFault k p (Some r)) where
    to : Offend j k
    to p m = ((same_reached p).0 m, offends_over j k on (λ q. (same_reached q).1) (λ q l r. (fault q l r).0) p m)

    from : Offend k j
    from p n = ((same_reached p).1 n, offends_over k j back (λ q. (same_reached q).0) (λ q l r. (fault q ((same_reached q).1 l) r).1) p n)

    pub same_verdicts : (v : Verdict) → IsVerdict j v ↔ IsVerdict k v
    same_verdicts v = (verdict_over j k to from v, verdict_over k j from to v)
