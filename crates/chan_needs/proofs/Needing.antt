-- The least job: what the open job of a program needs, and that a job which grants it has the open job's yes.
use Rattle.chan_needs.proofs.Names.{and_from, and_parts, AreClear, AreOfOneProgram, argument_unique, arith, begins_seek, both_ways, byte, cases_lt, ccw_of, ccw_over, check_stands, clear_check, clear_good, cylinder_of, extents_of, false, fetch_of, fetches_parts, from_open, Grants, has_cylinder, HasArgument, home, inl, inr, is_at_least, is_transfer, IsClear, IsGuarded, IsKept, IsNeededCylinder, IsProper, IsReachable, IsVerdict, Job, le-leb, length, lies_in, List, mask_is_no_transfer, nat_le, None, not_from_false, open_job, Option, Place, refl, same_under_yes, SeeksTo, Some, Stands, storage_of, store_of, stores_parts, subst, sym, to_open, true, Yes, yes_clear, ℕ, ◌+◌, ◌<◌, ◌↔◌, ◌≡◌, ◌≤◌, ◌⊎◌}
use Rattle.std.proofs.Common.{nat_lt}
use Rattle.std.proofs.lemmas.Bool.{not-true, not-false, not_from_true, lt-ltb}
use Rattle.ckd_core.proofs.CylinderLemmas.{has_cylinder-past}
use Rattle.chan_walk.specs.Fault.{is_refused}
use Rattle.chan_walk.specs.OpenJob.{all_storage, GrantsMore}
use Rattle.chan_needs.specs.Needs.{IsOpenlyReachable, LeastJob, NeededMaskIsEnough, NoJobWillDo}
use Rattle.chan_walk.proofs.Theory.Areas.{covered_at, allows_cylinder}
use Rattle.chan_walk.proofs.Theory.Commands.{seek_is_no_transfer, recalibrate_is_no_transfer}
use Rattle.chan_walk.proofs.Theory.Faults.{IsGood, stores_from}
use Rattle.chan_walk.proofs.Theory.Granting.{same_heads, allows_from, clear_over, reach_clear, yes_over, more_is_yes}
use Rattle.ccw_core.proofs.Covering.{covered-true}
use Rattle.chan_walk.proofs.Theory.Masks.{laxer_permits, strict_as_laxer, strict_as_open}
use Rattle.ckd_core.specs.declared.device.TheConstants.{CYLINDERS, LAST_CYLINDER}
use Rattle.ckd_core.specs.Extents.{all_cylinders}

-- ---- the open job

open_has : (n : ℕ) → n ≤ LAST_CYLINDER → has_cylinder all_cylinders n ≡ true
unfolding has_cylinder
open_has n h = let d : nat_le 0 n ≡ true = le-leb 0 n (omega arith) in let e : nat_le n LAST_CYLINDER ≡ true = le-leb n LAST_CYLINDER h in rw (d, e) refl

all_lie : (j : Job) (b : ℕ) → b < length (storage_of j) → lies_in (all_storage j) b ≡ true
unfolding lies_in
all_lie j b h =
    let d : nat_le 0 b ≡ true = le-leb 0 b (omega arith) in
    let e : nat_lt b (0 + length (storage_of j)) ≡ true = lt-ltb b (0 + length (storage_of j)) (omega arith) in
    rw (d, e) refl

pub opens : (j k : Job) → AreOfOneProgram j k → IsProper k → GrantsMore k (open_job j)
opens j k one proper = record {
  mask = strict_as_open k.mask proper.2;
  extents = λ n h. go n h (cases_lt n CYLINDERS);
  fetch = λ b lt h. lie b lt;
  store = λ b lt h. lie b lt;
}
  where
    lie : (b : ℕ) → b < length (storage_of k) → lies_in (all_storage j) b ≡ true
    lie b lt = all_lie j b (subst (λ s. b < length s) (sym one.storage) lt)

    go : (n : ℕ) → has_cylinder (extents_of k) n ≡ true → (n < CYLINDERS) ⊎ (CYLINDERS ≤ n) → has_cylinder all_cylinders n ≡ true
    go n h (inl lt) = open_has n (omega arith)
    go n h (inr le) = absurd (both_ways _ (has_cylinder-past (extents_of k) n proper.0.1 le) h)

-- ---- a yes grants what is needed

module _ (j k : Job) (one : AreOfOneProgram j k) (v : IsVerdict k Yes) where
  clear : (p : Place) → IsOpenlyReachable j p → IsClear k p
  clear p r = yes_clear k v p (reach_clear k (open_job j) (to_open j k one) (yes_clear k v) p r)

  same_ccw : (p : Place) → ccw_of k p ≡ ccw_of j p
  same_ccw p = ccw_over k (open_job j) (to_open j k one) p

  good : (p : Place) (r : IsOpenlyReachable j p) → is_transfer (ccw_of j p) ≡ false → IsGood k p (ccw_of j p) (clear p r).0
  good p r t = subst (λ c. IsGood k p c (clear p r).0) (same_ccw p) (clear_good k p (clear p r) (subst (λ c. is_transfer c ≡ false) (sym (same_ccw p)) t))

  has_needed : (n : ℕ) → IsNeededCylinder j n → has_cylinder (extents_of k) n ≡ true
  has_needed n m = subst (λ c. has_cylinder (extents_of k) c ≡ true) m.at (go m.seeks)
    where
      go : SeeksTo j m.place m.argument → has_cylinder (extents_of k) (cylinder_of m.argument) ≡ true
      go (inl (seeks, has)) =
          let f = clear m.place m.reached in
          let g = good m.place m.reached (seek_is_no_transfer (ccw_of j m.place) (and_parts _ _ seeks).1) in
          let there : HasArgument (storage_of k) m.place.address (Some m.argument) =
          subst (λ t. HasArgument t m.place.address (Some m.argument)) one.storage has in
          let same : f.0 ≡ Some m.argument = argument_unique (storage_of k) m.place.address f.0 (Some m.argument) f.1 there in
          let allowed : is_refused k (Some m.argument) ≡ false = subst (λ x. is_refused k x ≡ false) same (g.allowed seeks) in
          allows_cylinder k m.argument (not-false _ allowed)
      go (inr (seeks, home)) =
          let g = good m.place m.reached (recalibrate_is_no_transfer (ccw_of j m.place) (and_parts _ _ seeks).1) in
          subst (λ x. has_cylinder (extents_of k) (cylinder_of x) ≡ true) (sym home) (g.home seeks)

  pub yes_grants : Grants j k
  yes_grants = record {
    mask = λ p r. record {
      permits = λ b. let a = and_parts _ _ b in (good p r (not-true _ a.1)).permitted a.0;
      admits = λ b. subst (λ s. is_at_least (byte s (ccw_of j p).address) k.mask ≡ true) (sym one.storage)
          ((good p r (mask_is_no_transfer (ccw_of j p) (and_parts _ _ b).1)).strict b);
    };
    extents = has_needed;
    fetch = λ b m.
        let a = fetches_parts m.place (ccw_of j m.place) m.passes.1 in
        covered_at (fetch_of k) _ _ b ((good m.place m.reached a.0).fetch_lent a.1) m.from m.below;
    store = λ b m.
        let a = stores_parts m.place (ccw_of j m.place) m.passes.1 in
        covered_at (store_of k) _ _ b ((good m.place m.reached a.0).store_lent a.1 a.2) m.from m.below;
  }

-- ---- and what grants it has the open job's yes

module _ (j k : Job) (one : AreOfOneProgram j k) (grants : Grants j k) where
  allowed_under : (p : Place) → IsOpenlyReachable j p → (x : Option (List ℕ)) → HasArgument (storage_of j) p.address x
      → begins_seek p (ccw_of j p) ≡ true → is_refused (open_job j) x ≡ false → is_refused k x ≡ false
  allowed_under p r None a s h = refl
  allowed_under p r (Some x) a s h =
      not_from_true _ (allows_from (open_job j) k x (same_heads (open_job j) k (from_open j k one)) (not-false _ h)
      (grants.extents (cylinder_of x) (record { place = p; reached = r; argument = x; seeks = inl (s, a); at = refl })))

  good_under : (p : Place) → IsOpenlyReachable j p → Stands (storage_of j) p.address → (x : Option (List ℕ))
      → HasArgument (storage_of j) p.address x → is_transfer (ccw_of j p) ≡ false → IsGood (open_job j) p (ccw_of j p) x → IsGood k p (ccw_of j p) x
  good_under p r at x a t g = record {
    known = g.known;
    permitted = λ f. (grants.mask p r).permits (and_from _ _ f (not_from_false _ t));
    store_lent = λ f n. covered-true (store_of k) _ _
        (λ b le lt. grants.store b (record { place = p; reached = r; passes = (at, stores_from _ _ _ t f n); from = le; below = lt }));
    fetch_lent = λ f. covered-true (fetch_of k) _ _
        (λ b le lt. grants.fetch b (record { place = p; reached = r; passes = (at, and_from _ _ (not_from_false _ t) f); from = le; below = lt }));
    argued = g.argued;
    allowed = λ s. allowed_under p r x a s (g.allowed s);
    home = λ s. grants.extents 0 (record { place = p; reached = r; argument = home; seeks = inr (s, refl); at = refl });
    strict = λ s. subst (λ t. is_at_least (byte t (ccw_of j p).address) k.mask ≡ true) one.storage ((grants.mask p r).admits s);
  }

  pub granted_yes : IsVerdict (open_job j) Yes → IsVerdict k Yes
  granted_yes v = yes_over (open_job j) k back v clear_there
    where
      back : AreOfOneProgram (open_job j) k
      back = from_open j k one

      clear_there : AreClear k
      clear_there p m =
          let r = reach_clear (open_job j) k back (yes_clear (open_job j) v) p m in
          clear_over (open_job j) k back p (yes_clear (open_job j) v p r)
          (λ x a t fits g. good_under p r (check_stands (storage_of j) p (clear_check (open_job j) p (yes_clear (open_job j) v p r))) x a t g)

pub yes_opens : (j k : Job) → AreOfOneProgram j k → IsProper k → IsVerdict k Yes → IsVerdict (open_job j) Yes
yes_opens j k one proper v = more_is_yes k (open_job j) (to_open j k one) (opens j k one proper) v

pub least_job : LeastJob
least_job j k one proper = (λ v. (yes_opens j k one proper v, yes_grants j k one v), λ h. granted_yes j k one h.1 h.0)

pub needed_mask_is_enough : NeededMaskIsEnough
needed_mask_is_enough j mask other m = (
  λ s. m.strictest other s,
  λ h p r. record {
    permits = λ b. laxer_permits mask other _ h ((m.holds p r).permits b);
    admits = λ b. strict_as_laxer _ mask other ((m.holds p r).admits b) h;
  },
)

pub no_job_will_do : NoJobWillDo
no_job_will_do j k a r one proper n v = (yes_opens j k one proper v) n.0.place r n.0.reached n.0.offends

-- under a yes exactly the places that are openly reachable are reachable, and what is kept is what is guarded
pub yes_is_open : (j : Job) → IsProper j → IsVerdict j Yes → ((p : Place) → IsReachable j p ↔ IsOpenlyReachable j p) × ((b : ℕ) → IsGuarded j b ↔ IsKept j b)
yes_is_open j proper v =
    let same : AreOfOneProgram j j = record { storage = refl; start = refl; device = refl } in
    same_under_yes j (open_job j) (to_open j j same) v (yes_opens j j same proper v)
