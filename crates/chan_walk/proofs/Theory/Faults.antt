-- What it says of a place that it has no own fault.
use Rattle.chan_walk.proofs.Names.{ap, AreClear, begins_recalibrate, begins_seek, begins_set_mask, Bool, byte, ccw_of, cond-false, covered, extents_of, false, fault_with, fetch_of, Fields, goes_in, goes_out, has_cylinder, HasFault, inhibits, inl, is_at_least, is_fresh, is_known, is_none, is_refused, is_transfer, IsClear, IsVerdict, Job, kind_of, List, None, not, not-false, Option, Place, program_check, Reason, refl, rules, skips, Some, Stands, storage_of, store_of, sym, true, Yes, ℕ, ◌&&◌, ◌∙◌, ◌≡◌}
use Rattle.std.proofs.lemmas.Bool.{or_parts}
use Rattle.chan_walk.proofs.Theory.Chains.{argument_exists, argument_unique}
use Rattle.chan_walk.proofs.Theory.Checks.{cond_none, both_none, check_stands}

-- where the first of two tests is true, a fault that doesn't apply says something of the second
pub then_false : (a b : Bool) → (a && b) ≡ false → a ≡ true → b ≡ false
then_false a b h e = search rules

pub then_true : (a b : Bool) → (a && not b) ≡ false → a ≡ true → b ≡ true
then_true a b h e = not-false b (then_false a (not b) h e)

-- a place with the CCW c, which is no transfer, and no own fault; x is the argument of a seek there
pub record IsGood (j : Job) (p : Place) (c : Fields) (x : Option (List ℕ)) : Type 0 where
  pub known : is_fresh p.entered ≡ true → is_known c.command ≡ true
  pub permitted : is_fresh p.entered ≡ true → inhibits j.mask c.command ≡ false
  pub store_lent : goes_in (kind_of p.entered c) ≡ true → skips c ≡ false → covered (store_of j) c.address c.count ≡ true
  pub fetch_lent : goes_out (kind_of p.entered c) ≡ true → covered (fetch_of j) c.address c.count ≡ true
  pub argued : begins_seek p c ≡ true → is_none x ≡ false
  pub allowed : begins_seek p c ≡ true → is_refused j x ≡ false
  pub home : begins_recalibrate p c ≡ true → has_cylinder (extents_of j) 0 ≡ true
  pub strict : begins_set_mask p c ≡ true → is_at_least (byte (storage_of j) c.address) j.mask ≡ true

pub stores_from : (a b d : Bool) → a ≡ false → b ≡ true → d ≡ false → (not a && b && not d) ≡ true
stores_from a b d e f g = search rules

fetches_from : (a b : Bool) → a ≡ false → b ≡ true → (not a && b) ≡ true
fetches_from a b e f = search rules

pub clear_check : (j : Job) (p : Place) → IsClear j p → program_check (storage_of j) p ≡ None
clear_check j p f = (both_none _ _ f.2).0

pub clear_good : (j : Job) (p : Place) (f : IsClear j p) → is_transfer (ccw_of j p) ≡ false → IsGood j p (ccw_of j p) f.0
clear_good j p f t = search (rules, both_none, cond_none, cond-false, or_parts, then_true, then_false, stores_from, fetches_from)

pub fault_exists : (j : Job) (p : Place) → (r : Option Reason) × HasFault j p r
fault_exists j p = let x = argument_exists (storage_of j) p.address in (fault_with j p x.0, (x.0, x.1, refl))

pub yes_clear : (j : Job) → IsVerdict j Yes → AreClear j
yes_clear j v p m = let f = fault_exists j p in go f.0 f.1
  where
    go : (r : Option Reason) → HasFault j p r → IsClear j p
    go None f = f
    go (Some r) f = absurd (v p r m (inl f))

-- a place has one own fault, or none
pub fault_unique : (j : Job) (p : Place) (r t : Option Reason) → HasFault j p r → HasFault j p t → r ≡ t
fault_unique j p r t h k = sym h.2 ∙ ap (fault_with j p) (argument_unique (storage_of j) p.address h.0 k.0 h.1 k.1) ∙ k.2

pub clear_stands : (j : Job) (p : Place) → IsClear j p → Stands (storage_of j) p.address
clear_stands j p f = check_stands (storage_of j) p (clear_check j p f)
