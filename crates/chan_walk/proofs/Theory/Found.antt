-- The own fault of a place with its evidence.
use Rattle.chan_walk.proofs.Names.{allows, and_parts, ap, Area, AreExactly, arith, begins_recalibrate, begins_seek, begins_set_mask, Bool, both_ways, byte, cases_Bool, ccw_at, ccw_at-some, ccw_of, command_faults, cond-false, covered, cylinder_of, direction_of, end_of, Evidence, extents_of, false, fetches, Fields, first_reason, goes_in, goes_out, has_cylinder, HasArgument, head_of, if◌then◌else◌, inl, inr, is_at_least, is_direction, is_transfer, IsOwnFault, Job, Kind, kind_of, lent_faults, lies_in, List, moves_by, None, not, Option, option_or, Place, program_check, Reason, refl, rules, SeekOutside, skips, Some, storage_of, stores, subst, suc, sym, table_of_own, Track, track_of, true, WeakensMask, zero, ℕ, ◌&&◌, ◌++◌, ◌+◌, ◌<◌, ◌∙◌, ◌≡◌, ◌≤◌, ◌⊎◌}
use Rattle.std.specs.Cmp.Derive.{one_truth}
use Rattle.std.proofs.lemmas.Bool.{and_right}
use Rattle.ccw_core.specs.Areas.{IsGap}
use Rattle.ckd_core.specs.Track.{has_no_bin}
use Rattle.chan_walk.specs.declared.direction.Direction.{Direction}
use Rattle.chan_walk.specs.declared.direction.Direction.TheVariants.{Store, Fetch}
use Rattle.chan_walk.specs.Evidence.{GoTogether}
use Rattle.chan_walk.specs.Tables.{operand_faults}
use Rattle.chan_walk.proofs.Theory.Chains.{argument_exists}
use Rattle.chan_walk.proofs.Theory.Commands.{mask_no_recalibrate, seek_no_recalibrate, seek_sets_no_mask}
use Rattle.chan_walk.proofs.Theory.OwnFaults.{first_reason-append}

-- ---- put together

-- the CCW found is that of the place
pub found_here : (j : Job) (p : Place) (c : Fields) → ccw_at (storage_of j) p.address ≡ Some c → c ≡ ccw_of j p
found_here j p c h = (ccw_at-some (storage_of j) p.address c h).2

-- what the first of two parts finds counts, and what the second finds only if the first finds nothing
pub found_first : (j : Job) (p : Place) (r t : Option Reason) (e : Evidence) → GoTogether j p r (Some e) → GoTogether j p (option_or r t) (Some e)
found_first j p r t e h = (ap (λ z. option_or z t) h.0, h.1)

pub found_second : (j : Job) (p : Place) (r t : Option Reason) (o : Option Evidence) → r ≡ None → GoTogether j p t o → GoTogether j p (option_or r t) o
found_second j p r t o h k = rw h k

-- what the channel's check finds is the own fault
pub own_of_check : (j : Job) (p : Place) (e : Evidence) → GoTogether j p (program_check (storage_of j) p) (Some e) → IsOwnFault j p (Some e)
own_of_check j p e h =
    let a = argument_exists (storage_of j) p.address in
    record { reason = program_check (storage_of j) p; fault = (a.0, a.1, rw h.0 refl); found = h }

-- a transfer that passes it has none
pub own_of_transfer : (j : Job) (p : Place) → program_check (storage_of j) p ≡ None → is_transfer (ccw_of j p) ≡ true → IsOwnFault j p None
own_of_transfer j p h t =
    let a = argument_exists (storage_of j) p.address in
    record { reason = None; fault = (a.0, a.1, rw (h, t) refl); found = refl }

-- the three parts of the table, one after another, at a place that passes and is no transfer
module _ (j : Job) (p : Place) (c : Fields) (here : c ≡ ccw_of j p) (passes : program_check (storage_of j) p ≡ None) (other : is_transfer c ≡ false) where
  abbrev command : Option Reason
  command = first_reason (command_faults j p c)

  abbrev lent : Option Reason
  lent = first_reason (lent_faults j p c)

  abbrev operand : Option (List ℕ) → Option Reason
  operand x = first_reason (operand_faults j p c x)

  own_of_table : (x : Option (List ℕ)) (o : Option Evidence) → HasArgument (storage_of j) p.address x
      → GoTogether j p (option_or (option_or command lent) (operand x)) o → IsOwnFault j p o
  own_of_table x o has found =
      let r = first_reason (table_of_own j p c x) in
      let tests : r ≡ option_or (option_or command lent) (operand x) =
      first_reason-append (command_faults j p c ++ lent_faults j p c) (operand_faults j p c x)
      ∙ ap (λ o. option_or o (operand x)) (first_reason-append (command_faults j p c) (lent_faults j p c))
      in
      let whole : option_or (program_check (storage_of j) p) (if is_transfer c then None else r) ≡ r =
      ap (λ o. option_or o (if is_transfer c then None else r)) passes ∙ cond-false _ _ _ other
      in
      record {
        reason = r;
        fault = (
          x,
          has,
          subst (λ w. option_or (program_check (storage_of j) p) (if is_transfer w then None else first_reason (table_of_own j p w x))
              ≡ r) here whole,
        );
        found = subst (λ z. GoTogether j p z o) (sym tests) found;
      }

  pub own_of_command : (e : Evidence) → GoTogether j p command (Some e) → IsOwnFault j p (Some e)
  own_of_command e h =
      let a = argument_exists (storage_of j) p.address in
      own_of_table a.0 (Some e) a.1 (found_first j p (option_or command lent) (operand a.0) e (found_first j p command lent e h))

  pub own_of_lent : (e : Evidence) → command ≡ None → GoTogether j p lent (Some e) → IsOwnFault j p (Some e)
  own_of_lent e none h =
      let a = argument_exists (storage_of j) p.address in
      own_of_table a.0 (Some e) a.1 (found_first j p (option_or command lent) (operand a.0) e (found_second j p command lent (Some e) none h))

  pub own_of_operand : (o : Option Evidence) → command ≡ None → lent ≡ None
      → ((x : Option (List ℕ)) × HasArgument (storage_of j) p.address x × GoTogether j p (operand x) o) → IsOwnFault j p o
  own_of_operand o none more k =
      own_of_table k.0 o k.1 (found_second j p (option_or command lent) (operand k.0) o (ap (λ r. option_or r lent) none ∙ more) k.2)

-- ---- the argument of an operation

module _ (p : Place) (c : Fields) where
  -- where a seek begins, nothing else does
  seek_alone : begins_seek p c ≡ true → (begins_recalibrate p c ≡ false) × (begins_set_mask p c ≡ false)
  seek_alone s =
      let a = and_parts _ _ s in
      (and_right _ _ (seek_no_recalibrate c.command a.1), and_right _ _ (seek_sets_no_mask c.command a.1))

  pub seek_or_mask : begins_seek p c ≡ true → begins_set_mask p c ≡ true → ⊥
  seek_or_mask s m = both_ways _ (seek_alone s).1 m

  mask_alone : begins_set_mask p c ≡ true → (begins_seek p c ≡ false) × (begins_recalibrate p c ≡ false)
  mask_alone m = let a = and_parts _ _ m in (none (cases_Bool (begins_seek p c)), and_right _ _ (mask_no_recalibrate c.command a.1))
    where
      none : (begins_seek p c ≡ true) ⊎ (begins_seek p c ≡ false) → begins_seek p c ≡ false
      none (inl s) = absurd (seek_or_mask s m)
      none (inr n) = n

module _ (j : Job) (p : Place) (c : Fields) where
  abbrev first : Option (List ℕ) → Option Reason
  first x = first_reason (operand_faults j p c x)

  pub seek_refused : (x : List ℕ) → begins_seek p c ≡ true → allows j x ≡ false → first (Some x) ≡ Some SeekOutside
  seek_refused x s a = rw (s, a) refl

  pub seek_allowed : (x : List ℕ) → begins_seek p c ≡ true → allows j x ≡ true → first (Some x) ≡ None
  seek_allowed x s a =
      let b : begins_recalibrate p c ≡ false = (seek_alone p c s).0 in
      let m : begins_set_mask p c ≡ false = (seek_alone p c s).1 in
      rw (s, a, b, m) refl

  pub home_refused : (x : Option (List ℕ)) → begins_seek p c ≡ false → begins_recalibrate p c ≡ true
      → has_cylinder (extents_of j) 0 ≡ false → first x ≡ Some SeekOutside
  home_refused x s b h = rw (s, b, h) refl

  pub home_allowed : (x : Option (List ℕ)) → begins_seek p c ≡ false → begins_set_mask p c ≡ false
      → (begins_recalibrate p c && not (has_cylinder (extents_of j) 0)) ≡ false → first x ≡ None
  home_allowed x s m h = rw (s, m, h) refl

  pub mask_weak : (x : Option (List ℕ)) → begins_set_mask p c ≡ true → is_at_least (byte (storage_of j) c.address) j.mask ≡ false → first x ≡ Some WeakensMask
  mask_weak x m h =
      let s : begins_seek p c ≡ false = (mask_alone p c m).0 in
      let b : begins_recalibrate p c ≡ false = (mask_alone p c m).1 in
      rw (s, b, m, h) refl

  pub mask_strict : (x : Option (List ℕ)) → begins_set_mask p c ≡ true → is_at_least (byte (storage_of j) c.address) j.mask ≡ true → first x ≡ None
  mask_strict x m h =
      let s : begins_seek p c ≡ false = (mask_alone p c m).0 in
      let b : begins_recalibrate p c ≡ false = (mask_alone p c m).1 in
      rw (s, b, m, h) refl

-- ---- what is wrong with an argument

pub track_parts : (x : List ℕ) (t : Track) → Some t ≡ track_of x → (has_no_bin x ≡ true) × (t.cylinder ≡ cylinder_of x) × (t.head ≡ head_of x)
track_parts x t e = search rules

-- ---- areas of which only what lies in storage counts

-- a range is covered alike where its bytes lie alike
same_cover : (xs ys : List Area) (a n : ℕ) → ((b : ℕ) → b < a + n → lies_in xs b ≡ lies_in ys b) → covered xs a n ≡ covered ys a n
same_cover xs ys a zero f = refl
same_cover xs ys a (suc n) f = search (rules, same_cover xs ys (suc a) n)

pub lent_gap : (n : ℕ) (xs ys : List Area) (range : Area) (o : Option Area)
    → AreExactly (λ b. (b < n) × (lies_in ys b ≡ true)) xs → end_of range ≤ n → IsGap xs range o → IsGap ys range o
lent_gap n xs ys range o are within = go o
  where
    same : (b : ℕ) → b < end_of range → lies_in ys b ≡ lies_in xs b
    same b l = one_truth (lies_in ys b) (lies_in xs b) (λ e. (are.bytes b).1 (omega arith, e)) (λ e. ((are.bytes b).0 e).1)

    go : (o : Option Area) → IsGap xs range o → IsGap ys range o
    go None g = same_cover ys xs range.start range.len same ∙ g
    go (Some gap) (uncovered, g) = (
      same_cover ys xs range.start range.len same ∙ uncovered,
      record {
        from = g.from;
        filled = g.filled;
        within = g.within;
        before = λ b k l. same b (omega (arith, g.within)) ∙ g.before b k l;
        inside = λ b k l. same b (omega (arith, g.within)) ∙ g.inside b k l;
        after = λ l. same (end_of gap) l ∙ g.after l;
      },
    )

-- ---- which way data goes

one_way : (k : Kind) → goes_in k ≡ true → goes_out k ≡ false
one_way k h = search rules

-- what was found to go this way does
pub moves_so : (d : Direction) (p : Place) (c : Fields) → is_direction d (direction_of p c) ≡ moves_by d p c
moves_so Store p c = by_stores (stores p c) (fetches p c)
  where
    by_stores : (s f : Bool) → is_direction Store (if s then Some Store else if f then Some Fetch else None) ≡ s
    by_stores s f = search rules
moves_so Fetch p c = by_both (is_transfer c) (goes_in (kind_of p.entered c)) (goes_out (kind_of p.entered c)) (skips c) (one_way (kind_of p.entered c))
  where
    by_both : (t i o s : Bool) → (i ≡ true → o ≡ false)
        → is_direction Fetch (if not t && i && not s then Some Store else if not t && o then Some Fetch else None) ≡ (not t && o)
    by_both t i o s h = search rules
