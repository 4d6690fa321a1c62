-- Two jobs of one program: where one has the verdict yes, the other has it exactly if all that is reachable is clear.
use Rattle.chan_walk.proofs.Names.{allows, and_from, and_parts, ap, Area, AreClear, AreOfOneProgram, arith, begins_recalibrate, begins_seek, begins_set_mask, Bool, byte, ccw, ccw_of, cond, covered, cylinder_of, extents_of, false, fetch_of, fetches, Fields, first_place, first_reason, Fresh, goes_in, goes_out, GrantsMore, has_cylinder, HasArgument, head_of, heads, heads_of, if◌then◌else◌, inhibits, inl, inr, is_allowed, is_at_least, is_fresh, is_known, is_none, is_refused, is_transfer, IsClear, IsDataOf, IsReachable, IsVerdict, Job, kind_of, length, lies_in, List, None, not, not-false, not-true, Offends, Option, option_or, Place, program_check, refl, rules, skips, Some, Stands, storage_of, store_of, stores, subst, sym, table_of_own, TakesArgumentByte, transferred_to, true, Yes, ℕ, ◌&&◌, ◌+◌, ◌<◌, ◌||◌, ◌↔◌, ◌∙◌, ◌≡◌, ◌≤◌}
use Rattle.std.proofs.Common.{nat_lt}
use Rattle.std.proofs.lemmas.Bool.{or_from, not_from_true}
use Rattle.chan_walk.specs.OpenJob.{MoreIsYes, SameUnderYes}
use Rattle.chan_walk.proofs.Theory.Areas.{covered_at, allows_cylinder}
use Rattle.chan_walk.proofs.Theory.Faults.{IsGood, clear_check, clear_good, fault_unique, yes_clear}
use Rattle.chan_walk.proofs.Theory.OwnFaults.{data_in_storage}
use Rattle.ccw_core.proofs.Covering.{covered-true}
use Rattle.chan_walk.proofs.Theory.Masks.{laxer_permits, strict_as_laxer}
use Rattle.chan_walk.proofs.Theory.Transport.{CarriesOver, reach_over, changes_over, same_reached, same_guarded, same_data}

-- ---- one place

passes : (a b : Bool) → (a ≡ true → b ≡ true) → (a && not b) ≡ false
passes a b h = search rules

pub avoids : (a b : Bool) → (a ≡ true → b ≡ false) → (a && b) ≡ false
avoids a b h = search rules

pub stores_parts : (p : Place) (c : Fields) → stores p c ≡ true → (is_transfer c ≡ false) × (goes_in (kind_of p.entered c) ≡ true) × (skips c ≡ false)
stores_parts p c h = search (rules, and_parts, not-true)

pub fetches_parts : (p : Place) (c : Fields) → fetches p c ≡ true → (is_transfer c ≡ false) × (goes_out (kind_of p.entered c) ≡ true)
fetches_parts p c h = search (rules, and_parts, not-true)

good_table : (k : Job) (p : Place) (c : Fields) (x : Option (List ℕ)) → IsGood k p c x → first_reason (table_of_own k p c x) ≡ None
good_table k p c x g =
    let known : (is_fresh p.entered && not (is_known c.command)) ≡ false = passes _ _ g.known in
    let permitted : (is_fresh p.entered && inhibits k.mask c.command) ≡ false = avoids _ _ g.permitted in
    let store : (stores p c && not (covered (store_of k) c.address c.count)) ≡ false = passes _ _ (λ s. let a = stores_parts p c s in g.store_lent a.1 a.2) in
    let fetch : (fetches p c && not (covered (fetch_of k) c.address c.count)) ≡ false = passes _ _ (λ s. g.fetch_lent (fetches_parts p c s).1) in
    let argued : (begins_seek p c && is_none x) ≡ false = avoids _ _ g.argued in
    let seeks : ((begins_seek p c && is_refused k x) || (begins_recalibrate p c && not (has_cylinder (extents_of k) 0))) ≡ false =
    or_from _ _ (avoids _ _ g.allowed) (passes _ _ g.home) in
    let strict : (begins_set_mask p c && not (is_at_least (byte (storage_of k) c.address) k.mask)) ≡ false = passes _ _ g.strict in
    rw (known, permitted, store, fetch, argued, seeks, strict) refl

good_rest : (k : Job) (p : Place) (x : Option (List ℕ)) → (is_transfer (ccw_of k p) ≡ false → IsGood k p (ccw_of k p) x)
    → (if is_transfer (ccw_of k p) then None else first_reason (table_of_own k p (ccw_of k p) x)) ≡ None
good_rest k p x g = go (is_transfer (ccw_of k p)) refl
  where
    go : (b : Bool) → is_transfer (ccw_of k p) ≡ b → cond b None (first_reason (table_of_own k p (ccw_of k p) x)) ≡ None
    go true e = refl
    go false e = good_table k p (ccw_of k p) x (g e)

pub clear_from : (k : Job) (p : Place) (x : Option (List ℕ)) → HasArgument (storage_of k) p.address x → program_check (storage_of k) p ≡ None
    → (is_transfer (ccw_of k p) ≡ false → IsGood k p (ccw_of k p) x) → IsClear k p
clear_from k p x a h g = (
  x,
  a,
  ap (λ o. option_or o (if is_transfer (ccw_of k p) then None else first_reason (table_of_own k p (ccw_of k p) x))) h ∙ good_rest k p x g,
)

pub allows_from : (j k : Job) (x : List ℕ) → heads j ≡ heads k → allows j x ≡ true → has_cylinder (extents_of k) (cylinder_of x) ≡ true → allows k x ≡ true
unfolding is_allowed
allows_from j k x e a h =
    let parts = and_parts _ _ a in
    and_from _ _ (and_from _ _ (and_parts _ _ parts.0).0 h) (subst (λ n. nat_lt (head_of x) n ≡ true) e parts.1)

-- ---- two jobs of one program

pub turned : (j k : Job) → AreOfOneProgram j k → AreOfOneProgram k j
turned j k one = record { storage = sym one.storage; start = sym one.start; device = sym one.device }

module _ (j k : Job) (one : AreOfOneProgram j k) where
  pub ccw_over : (p : Place) → ccw_of j p ≡ ccw_of k p
  ccw_over p = ap (λ s. ccw s p.address) one.storage

  pub same_heads : heads j ≡ heads k
  same_heads = ap heads_of one.device

  -- a place that is clear under j is clear under k, where k grants what it asks for
  pub clear_over : (p : Place) → IsClear j p
      → ((x : Option (List ℕ)) → HasArgument (storage_of j) p.address x → is_transfer (ccw_of j p) ≡ false
      → (ccw_of j p).address + (ccw_of j p).count ≤ length (storage_of j) → IsGood j p (ccw_of j p) x → IsGood k p (ccw_of j p) x)
      → IsClear k p
  clear_over p f g =
      clear_from k p f.0 (subst (λ s. HasArgument s p.address f.0) one.storage f.1) (subst (λ s. program_check s p ≡ None) one.storage (clear_check j p f))
      (λ t. let u : is_transfer (ccw_of j p) ≡ false = subst (λ c. is_transfer c ≡ false) (sym (ccw_over p)) t in
      subst (λ c. IsGood k p c f.0) (ccw_over p) (g f.0 f.1 u (data_in_storage (storage_of j) p (ccw_of j p) (clear_check j p f) refl u) (clear_good j p f u)))

  -- what the verdict asks of p carries over, if it is clear under k
  pub carries : (p : Place) → (IsClear j p → IsClear k p) → CarriesOver j k p
  carries p clear = record {
    stands = subst (λ s. Stands s p.address) one.storage;
    clear = clear;
    ccw = λ f. ccw_over p;
    takes = λ f b. subst (λ s. TakesArgumentByte s p b) one.storage;
  }

  pub same_first : first_place j ≡ first_place k
  same_first = ap (λ a. transferred_to a Fresh) one.start

  -- k grants all that j grants
  module _ (more : GrantsMore j k) where
    pub covered_more : (xs ys : List Area) (a n l : ℕ) → ((b : ℕ) → b < l → lies_in xs b ≡ true → lies_in ys b ≡ true)
        → a + n ≤ l → covered xs a n ≡ true → covered ys a n ≡ true
    covered_more xs ys a n l f fits h = covered-true ys a n (λ b le lt. f b (omega arith) (covered_at xs a n b h le lt))

    pub refused_more : (x : Option (List ℕ)) → is_refused j x ≡ false → is_refused k x ≡ false
    refused_more None h = refl
    refused_more (Some x) h =
        let a : allows j x ≡ true = not-false _ h in
        not_from_true _ (allows_from j k x (same_heads) a (more.extents (cylinder_of x) (allows_cylinder j x a)))

    good_more : (p : Place) (c : Fields) (x : Option (List ℕ)) → c.address + c.count ≤ length (storage_of j) → IsGood j p c x → IsGood k p c x
    good_more p c x fits g = record {
      known = g.known;
      permitted = λ f. laxer_permits j.mask k.mask c.command more.mask (g.permitted f);
      store_lent = λ a b. covered_more (store_of j) (store_of k) c.address c.count _ more.store fits (g.store_lent a b);
      fetch_lent = λ a. covered_more (fetch_of j) (fetch_of k) c.address c.count _ more.fetch fits (g.fetch_lent a);
      argued = g.argued;
      allowed = λ s. refused_more x (g.allowed s);
      home = λ s. more.extents 0 (g.home s);
      strict = λ s. subst (λ t. is_at_least (byte t c.address) k.mask ≡ true) one.storage (strict_as_laxer _ j.mask k.mask (g.strict s) more.mask);
    }

    clear_more : (p : Place) → IsClear j p → IsClear k p
    clear_more p f = clear_over p f (λ x a t fits g. good_more p (ccw_of j p) x fits g)

-- ---- where one is a yes

-- where nothing that is reachable under j has a fault, nothing else is reachable under k
pub reach_clear : (j k : Job) → AreOfOneProgram j k → AreClear j → (p : Place) → IsReachable k p → IsReachable j p
reach_clear j k one clear = reach_over k j (same_first k j back) (λ p n m. carries k j back p (λ f. clear p m))
  where
    back : AreOfOneProgram k j
    back = turned j k one

-- where both are clear, what stores over a guarded byte under k does so under j
pub yes_over : (j k : Job) → AreOfOneProgram j k → IsVerdict j Yes → AreClear k → IsVerdict k Yes
yes_over j k one v clear p r m o = go o
  where
    to : (q : Place) → IsReachable k q → IsReachable j q
    to = reach_clear j k one (yes_clear j v)

    go : Offends k p r → ⊥
    go (inl f) = none (fault_unique k p (Some r) None f (clear p m))
      where
        none : Some r ≡ None → ⊥
        none e = absurd (cc)
    go (inr (d, c)) =
        v p r (to p m)
        (inr (yes_clear j v, changes_over k j (λ q n. (to q n, carries k j (turned j k one) q (λ f. yes_clear j v q (to q n)))) p r m (clear p m) c))

pub more_is_yes : MoreIsYes
more_is_yes j k one more v = yes_over j k one v (λ p m. let r = reach_clear j k one (yes_clear j v) p m in clear_more j k one more p (yes_clear j v p r))

-- where both are a yes, what the verdict asks is the same in both
pub carries_yes : (j k : Job) → AreOfOneProgram j k → IsVerdict j Yes → IsVerdict k Yes
    → (p : Place) → IsReachable j p → IsReachable k p → CarriesOver j k p × CarriesOver k j p
carries_yes j k one v w p m n = (carries j k one p (λ f. yes_clear k w p n), carries k j (turned j k one) p (λ f. yes_clear j v p m))

pub same_under_yes : SameUnderYes
same_under_yes j k one v w = (same_reached j k (same_first j k one) (carries_yes j k one v w), same_guarded j k (same_first j k one) (carries_yes j k one v w))

pub data_under_yes : (j k : Job) → AreOfOneProgram j k → IsVerdict j Yes → IsVerdict k Yes
    → (test : Place → Fields → Bool) (b : ℕ) → IsDataOf test j b ↔ IsDataOf test k b
data_under_yes j k one v w = same_data j k (same_first j k one) (carries_yes j k one v w) (yes_clear j v) (yes_clear k w)
