-- Where a program ends by itself and where it may hang, over its runs.
use Rattle.chan_why.proofs.Names.{[], ap, append_assoc, arith, begins_seek, Bool, both_ways, ccw_of, chains_data, clear_stands, EndsAfter, EndsTheProgram, Entry, false, Fields, inl, inr, is_fresh, is_known, is_transfer, IsClear, IsReachable, Job, Kind, kind_of, length, List, next_of, None, Option, Outward, Place, refl, reverse, rules, Some, storage_of, subst, sym, true, ℕ, ◌++◌, ◌+◌, ◌<◌, ◌↔◌, ◌∙◌, ◌∷◌, ◌≡◌, ◌⊎◌}
use Rattle.std.proofs.Common.{if◌then◌else◌, is_none}
use Rattle.std.proofs.lemmas.List.{reverse-append}
use Rattle.ccw_core.specs.Ccw.{ccw, chains_command}
use Rattle.chan_walk.specs.declared.place.Entry.TheVariants.{Fresh}
use Rattle.chan_walk.specs.declared.verdict.Verdict.TheVariants.{Yes}
use Rattle.chan_walk.specs.Alarm.{AreBytes}
use Rattle.chan_walk.specs.Argument.{HasArgument}
use Rattle.chan_walk.specs.ProgramCheck.{program_check, program_check_of}
use Rattle.chan_walk.specs.Machine as machine
use Rattle.chan_walk.specs.Machine.{At, Checked, Continues, Ended, Event, Gathered, Stage, Step, StepFrom, under_way}
use Rattle.chan_walk.specs.OpenJob.{AreOfOneProgram}
use Rattle.chan_walk.specs.Place.{straight_to, transferred_to}
use Rattle.chan_walk.specs.Reachable.{IsPath}
use Rattle.chan_walk.specs.Runs.{Moment, Steps, IsSameIn}
use Rattle.chan_walk.specs.Successor.{Successor, chained, skip_of}
use Rattle.chan_walk.specs.Verdict.{IsVerdict}
use Rattle.chan_why.specs.Hang.{CannotEndAt, HangLasts, SomeRunEnds, HangGoesOn, HangsAlike, HangStays, StepsOn, StepsOnUnlessItEnds}
use Rattle.ccw_core.specs.Held.{bytes_held}
use Rattle.chan_walk.specs.VerdictBytes.{IsVerdictByte, with_storage}
use Rattle.chan_walk.proofs.Algorithms.VerdictBytes.{carries_at}
use Rattle.chan_walk.proofs.Machine.Again.{verdict_byte_is_guarded}
use Rattle.chan_walk.proofs.Theory.Transport.{CarriesOver, same_reached}
use Rattle.chan_walk.proofs.Machine.Gathering.{advance, begin}
use Rattle.chan_walk.proofs.Machine.Invariant.{Invariant, Same, Under}
use Rattle.chan_walk.proofs.Machine.Paths.{Taking, each_path_is_run, few_at}
use Rattle.chan_walk.proofs.Machine.Quiet.{IsFew, Known, Left, bytes_at, carry_out, full_count, kind_at, length-with_taken, seek_at}
use Rattle.chan_walk.proofs.Machine.Waiting.{WaitsSpared}
use Rattle.chan_walk.proofs.Machine.Yes.{all_kept, each_ok, fresh_out}
use Rattle.chan_walk.proofs.Theory.Granting.{same_under_yes, turned}
use Rattle.chan_walk.proofs.Theory.Faults.{clear_check, clear_good, yes_clear}
use Rattle.chan_walk.proofs.Theory.Follows.{FollowsBy, by_command, by_data, by_skip, by_transfer, follows, succeeds}
use Rattle.chan_walk.proofs.Theory.SameCcws.{same_ccw}

-- ---- where a step leads

led_by : {p q : Place} {c : Fields} {k : Kind} {m : ℕ} {g h : Gathered} {es : List Event} {st : Stage}
    → Continues p c k m g es st → st ≡ At q h → is_transfer c ≡ false → FollowsBy p c k q
led_by machine.ends is t = absurd (cc)
led_by {p = p} {q = q} {c = c} {k = k} (machine.on_data {e = e} cd ch mc) is t =
    let same : straight_to (p.address + 8) e ≡ q = cc in
    subst (FollowsBy p c k) same (by_data t cd ch)
led_by {p = p} {q = q} {c = c} {k = k} (machine.on_command cd cm) is t =
    let same : straight_to (p.address + 8) Fresh ≡ q = cc in
    subst (FollowsBy p c k) same (by_command t cd cm)
led_by {p = p} {q = q} {c = c} {k = k} (machine.on_skip cd cm ks) is t =
    let same : straight_to (p.address + 16) Fresh ≡ q = cc in
    subst (FollowsBy p c k) same (by_skip t cd cm ks)
led_by (machine.on_short cd mc) is t = absurd (cc)

led : {s : List ℕ} {y f : ℕ} {p q : Place} {g h : Gathered} {es : List Event} {t : List ℕ} {y' f' : ℕ} {st : Stage}
    → Step s y f p g es t y' f' st → st ≡ At q h → FollowsBy p (ccw s p.address) (kind_of p.entered (ccw s p.address)) q
led (machine.checked e) is = absurd (cc)
led {s = s} {p = p} {q = q} (machine.transferred e t) is =
    let same : transferred_to (ccw s p.address).address p.entered ≡ q = cc in
    subst (FollowsBy p (ccw s p.address) _) same (by_transfer t)
led (machine.unknown e t fr un) is = absurd (cc)
led (machine.carried e t known le mv sk hm fm gs) is = led_by gs is t

-- ---- a step that leads on

-- a seek under way at the CCW c lacks no more bytes than c gives, or c chains data
abbrev Fills : Place → Fields → Gathered → Type 0
Fills p c None = Unit {0}
Fills p c (Some x) = (kind_of p.entered c ≡ Outward) × (length x + c.count < 6 → chains_data c ≡ true)

-- so it is done where data chaining is off
done : (j : Job) (p : Place) (c : Fields) (g : Gathered) (es : List Event) (after : Gathered) → Fills p c g
    → chains_data c ≡ false → Left j c (full_count (kind_of p.entered c) c) g es after → after ≡ None
done j p c None es after f cd l = l.0
done j p c (Some x) es after f cd (inr l) = l.1
done j p c (Some x) es after f cd (inl l) =
    let m : full_count (kind_of p.entered c) c ≡ c.count = ap (λ k. full_count k c) f.0 in
    absurd (both_ways _ cd (f.1 (omega (arith, m, l.0, length-with_taken (storage_of j) c (full_count (kind_of p.entered c) c) x))))

whole : {e : Entry} (k : Kind) (c : Fields) → chained k ≡ Some e → full_count k c ≡ c.count
whole k c h = search rules

-- from p, with what a seek has gathered, the CCW c leads on to q
abbrev SeekLeadsOn : Place → Gathered → Place → Fields → Type 0
SeekLeadsOn p g q c =
    IsFew (under_way p c g)
    × (is_transfer c ≡ false → (is_fresh p.entered ≡ true → is_known c.command ≡ true) × Fills p c (under_way p c g))
    × FollowsBy p c (kind_of p.entered c) q

-- a step from p to some place
record StepAhead (s : List ℕ) (y f : ℕ) (p : Place) (g : Gathered) : Type 0 where
  es : List Event
  after : List ℕ
  arm : ℕ
  mask : ℕ
  to : Place
  gathered : Gathered
  step : Step s y f p g es after arm mask (At to gathered)

-- j is a job over the storage of a moment, with the mask in force there
module _ (j : Job) (y : ℕ) (p : Place) (g : Gathered) (bytes : AreBytes (storage_of j))
    (e : program_check (storage_of j) p ≡ None) (few : IsFew (under_way p (ccw_of j p) g)) where
  onward : {to : Place} {h : Gathered} → Known j p → is_transfer (ccw_of j p) ≡ false
      → Continues p (ccw_of j p) (kind_at j p) (bytes_at j p) (seek_at j y p g few).after [] (At to h) → StepAhead (storage_of j) y j.mask p g
  onward {to = to} {h = h} known t goes =
      let r = carry_out j bytes y p g few e t known tt goes in
      record { es = r.es; after = storage_of j; arm = y; mask = j.mask; to = to; gathered = h; step = r.step }

  by_chaining : Known j p → Fills p (ccw_of j p) (under_way p (ccw_of j p) g) → is_transfer (ccw_of j p) ≡ false
      → chains_data (ccw_of j p) ≡ false → chains_command (ccw_of j p) ≡ true → StepAhead (storage_of j) y j.mask p g
  by_chaining known fills t cd cm =
      let sk = seek_at j y p g few in
      let none = done j p (ccw_of j p) (under_way p (ccw_of j p) g) sk.es sk.after fills cd sk.left in
      onward known t (subst (λ z. Continues p (ccw_of j p) (kind_at j p) (bytes_at j p) z [] (At (straight_to (p.address + 8) Fresh) None))
      (sym none) (machine.on_command cd cm))

  steps : {q : Place} → (is_transfer (ccw_of j p) ≡ false → Known j p × Fills p (ccw_of j p) (under_way p (ccw_of j p) g))
      → FollowsBy p (ccw_of j p) (kind_at j p) q → StepAhead (storage_of j) y j.mask p g
  steps r (by_transfer t) = record { es = []; after = storage_of j; arm = y; mask = j.mask; to = _; gathered = g; step = machine.transferred e t }
  steps r (by_data t cd ch) = onward (r t).0 t (machine.on_data cd ch (whole (kind_at j p) (ccw_of j p) ch))
  steps r (by_command t cd cm) = by_chaining (r t).0 (r t).1 t cd cm
  steps r (by_skip t cd cm ks) = by_chaining (r t).0 (r t).1 t cd cm

-- ---- under a yes

module _ (j : Job) (v : IsVerdict j Yes) (p : Place) (reached : IsReachable j p) where
  clear : IsClear j p
  clear = yes_clear j v p reached

  -- the CCW is what it was
  ccw_kept : (s : List ℕ) → Same j s → ccw s p.address ≡ ccw_of j p
  ccw_kept s same =
      same_ccw s (storage_of j) p.address
      (λ b le lt. same b (inl (record { place = p; reached = reached; stands = clear_stands j p clear; from = le; below = lt })))

  -- a step leads to a successor
  led_on : {s : List ℕ} {y f : ℕ} {q : Place} {g h : Gathered} {es : List Event} {t : List ℕ} {y' f' : ℕ} {st : Stage}
      → Same j s → Step s y f p g es t y' f' st → st ≡ At q h → Successor j p q
  led_on {s = s} {q = q} same w is = succeeds p (ccw_of j p) _ q (subst (λ c. FollowsBy p c (kind_of p.entered c) q) (ccw_kept s same) (led w is))

  -- a place without a successor ends the program
  on_or_end : (EndsTheProgram j p → ⊥) → (o r : Option Place) → next_of p (ccw_of j p) (kind_of p.entered (ccw_of j p)) ≡ o
      → skip_of p (ccw_of j p) (kind_of p.entered (ccw_of j p)) ≡ r → (q : Place) × Successor j p q
  on_or_end n (Some q) r d e = (q, inl d)
  on_or_end n None (Some q) d e = (q, inr e)
  on_or_end n None None d e = absurd (n (record { clear = clear; last = last }))
    where
      last : (q : Place) → Successor j p q → ⊥
      last q (inl h) = absurd (cc)
      last q (inr h) = absurd (cc)

  few : (g : Gathered) → Under j p g → IsFew (under_way p (ccw_of j p) g)
  few g u = few_at j p g (taking g u)
    where
      taking : (g : Gathered) → Under j p g → Taking j p g
      taking None u = tt
      taking (Some x) u = (u.0, u.1, u.3)

  -- the argument of a seek is whole
  fills : is_transfer (ccw_of j p) ≡ false → (b : Bool) → begins_seek p (ccw_of j p) ≡ b
      → (g : Gathered) → Under j p g → Fills p (ccw_of j p) (if b then Some [] else g)
  fills t false is None u = tt
  fills t false is (Some x) u = (
    ap (λ e. kind_of e (ccw_of j p)) u.0,
    λ l. (advance (storage_of j) u.1 p x (ccw_of j p).count u.3 t (omega arith)).chains
        (omega (arith, length-with_taken (storage_of j) (ccw_of j p) (ccw_of j p).count x)) refl,
  )
  fills t true is g u = begun clear.0 clear.1 ((clear_good j p clear t).argued is)
    where
      begun : (x : Option (List ℕ)) → HasArgument (storage_of j) p.address x → is_none x ≡ false → Fills p (ccw_of j p) (Some [])
      begun None h miss = absurd (cc)
      begun (Some x) h miss = (
        fresh_out p (ccw_of j p) is,
        λ l. (advance (storage_of j) h.0 p [] (ccw_of j p).count (begin (storage_of j) h.0 p h.1) t (omega arith)).chains
            (omega (arith, length-with_taken (storage_of j) (ccw_of j p) (ccw_of j p).count [])) refl,
      )

  steps_on : (m : Moment) (g : Gathered) → AreBytes m.storage → m.stage ≡ At p g
      → Invariant j m.storage m.arm m.mask (At p g) → (EndsTheProgram j p → ⊥) → StepsOn m
  steps_on m g bytes is i n = (
    record { storage = on.after; arm = on.arm; mask = on.mask; stage = At on.to on.gathered; events = on.es },
    subst (λ st. StepFrom m.storage m.arm m.mask st on.es on.after on.arm on.mask (At on.to on.gathered)) (sym is) on.step,
    on.to,
    on.gathered,
    refl,
  )
    where
      -- the job over the storage of the moment
      there : Job
      there =
          record j {
            storage = record (j.storage)
                { bytes = record (j.storage.bytes) { now = m.storage }; small = omega (arith, i.same_length, j.storage.small); fits = bytes };
            mask = m.mask;
          }

      same : ccw_of j p ≡ ccw_of there p
      same = sym (ccw_kept m.storage i.same)

      checked : program_check m.storage p ≡ None
      checked =
          ap (λ n. program_check_of n p (ccw m.storage p.address)) i.same_length
          ∙ ap (program_check_of (length (storage_of j)) p) (ccw_kept m.storage i.same) ∙ clear_check j p clear

      q : (q : Place) × Successor j p q
      q = on_or_end n _ _ refl refl

      -- what is so of the CCW as it was is so of it now
      ready : (c : Fields) → ccw_of j p ≡ c → SeekLeadsOn p g q.0 c
      ready c e =
          subst (SeekLeadsOn p g q.0) e
          (few g i.stage.1, λ t. ((clear_good j p clear t).known, fills t (begins_seek p (ccw_of j p)) refl g i.stage.1), follows p (ccw_of j p) _ q.0 q.1)

      on : StepAhead m.storage m.arm m.mask p g
      on = let r = ready (ccw_of there p) same in steps there m.arm p g bytes checked r.0 r.1 r.2

pub steps_on_unless_it_ends : StepsOnUnlessItEnds
steps_on_unless_it_ends j v =
    all_kept j v _ (λ m i bytes p g is. let k = subst (Invariant j m.storage m.arm m.mask) is i in (to m p g is k, steps_on j v p k.stage.0 m g bytes is k))
  where
    to : (m : Moment) (p : Place) (g : Gathered) → m.stage ≡ At p g → Invariant j m.storage m.arm m.mask (At p g) → StepsOn m → EndsTheProgram j p → ⊥
    to m p g is k n e =
        e.last n.2
        (led_on j v p k.stage.0 k.same (subst (λ st. StepFrom m.storage m.arm m.mask st n.0.events n.0.storage n.0.arm n.0.mask n.0.stage) is n.1) n.4)

-- ---- a place that can't end

module _ (j : Job) (v : IsVerdict j Yes) where
  stays : (s : List ℕ) (y f : ℕ) (a : Stage) (es : List Event) (t : List ℕ) (y' f' : ℕ) (b : Stage)
      → StepFrom s y f a es t y' f' b → Invariant j s y f a → CannotEndAt j a → CannotEndAt j b
  stays s y f a es t y' f' Ended w k c = tt
  stays s y f a es t y' f' (Checked r) w k c = tt
  stays s y f (At p g) es t y' f' (At q h) w k c = λ e. c (q ∷ e.0, ((yes_clear j v p k.stage.0, led_on j v p k.stage.0 k.same w refl), e.1))
  stays s y f Ended es t y' f' (At q h) w k c = absurd w
  stays s y f (Checked r) es t y' f' (At q h) w k c = absurd w

  next : (m n : Moment) → Steps m n ⊎ WaitsSpared j m n → Invariant j m.storage m.arm m.mask m.stage → CannotEndAt j m.stage → CannotEndAt j n.stage
  next m n (inl w) k c = stays m.storage m.arm m.mask m.stage n.events n.storage n.arm n.mask n.stage w k c
  next m n (inr w) k c = subst (CannotEndAt j) (sym w.0.stage) c

pub hang_lasts : HangLasts
hang_lasts j v [] earlier m r c = tt
hang_lasts j v (n ∷ []) earlier m r c = (next j v m n r.1 (each_ok j v (m ∷ earlier) r.0).0.kept c, tt)
hang_lasts j v (n ∷ l ∷ later) earlier m r c =
    let rest = hang_lasts j v (l ∷ later) earlier m r.0 c in
    (next j v l n r.1 (each_ok j v (l ∷ (later ++ m ∷ earlier)) r.0).0.kept rest.0, rest)

goes_on : (j : Job) → IsVerdict j Yes → (n : Moment) → Invariant j n.storage n.arm n.mask n.stage
    → CannotEndAt j n.stage → AreBytes n.storage → (p : Place) (g : Gathered) → n.stage ≡ At p g → StepsOn n
goes_on j v n i c bytes p g is =
    let k = subst (Invariant j n.storage n.arm n.mask) is i in
    steps_on j v p k.stage.0 n g bytes is k (λ e. (subst (CannotEndAt j) is c) ([], e))

pub hang_goes_on : HangGoesOn
hang_goes_on j v n later earlier m r c bytes p g is =
    let h = hang_lasts j v (n ∷ later) earlier m r c in
    goes_on j v n (each_ok j v (n ∷ (later ++ m ∷ earlier)) r).0.kept h.0 bytes p g is

-- ---- a run to an end

path_on : (j : Job) (p : Place) (on before : List Place) → IsPath j (p ∷ before) → EndsAfter j p on → IsPath j (reverse on ++ p ∷ before)
path_on j p [] before h e = h
path_on j p (q ∷ on) before h e =
    subst (IsPath j) (sym (ap (λ z. z ++ p ∷ before) (reverse-append (q ∷ []) on) ∙ append_assoc (reverse on) (q ∷ []) (p ∷ before)))
    (path_on j q on (p ∷ before) (h, e.0.0, e.0.1) e.1)

pub some_run_ends : SomeRunEnds
some_run_ends j proper p reached can =
    let r = each_path_is_run j proper (reverse can.0 ++ p ∷ reached.0) (path_on j p can.0 reached.0 reached.1 can.1) in
    (can.0, can.1, reached.0, r.0, r.1, r.2)

-- ---- two jobs of one program

succeeds_over : (j k : Job) → AreOfOneProgram j k → (p q : Place) → Successor j p q → Successor k p q
succeeds_over j k one p q s =
    subst (λ s. (next_of p (ccw s p.address) (kind_of p.entered (ccw s p.address)) ≡ Some q)
    ⊎ (skip_of p (ccw s p.address) (kind_of p.entered (ccw s p.address)) ≡ Some q)) one.storage s

ends_over : (j k : Job) → AreOfOneProgram j k → IsVerdict k Yes → (on : List Place) (p : Place) → IsReachable k p → EndsAfter j p on → EndsAfter k p on
ends_over j k one w [] p m e = record { clear = yes_clear k w p m; last = λ q s. e.last q (succeeds_over k j (turned j k one) p q s) }
ends_over j k one w (q ∷ on) p m e =
    let f : IsClear k p × Successor k p q = (yes_clear k w p m, succeeds_over j k one p q e.0.1) in
    (f, ends_over j k one w on q (p ∷ m.0, (m.1, f.0, f.1)) e.1)

pub hangs_alike : HangsAlike
hangs_alike j k one v w p h = (((same_under_yes j k one v w).0 p).0 h.0, λ can. h.1 (can.0, ends_over k j (turned j k one) v can.0 p h.0 can.1))

-- ---- one job over two storages

module _ (j k : Job) (on : (p : Place) → IsReachable j p → IsReachable k p × CarriesOver j k p) where
  succeeds_there : (p q : Place) → ccw_of j p ≡ ccw_of k p → Successor j p q ↔ Successor k p q
  succeeds_there p q same = (
    (λ s. subst (λ c. (next_of p c (kind_of p.entered c) ≡ Some q) ⊎ (skip_of p c (kind_of p.entered c) ≡ Some q)) same s),
    λ s. subst (λ c. (next_of p c (kind_of p.entered c) ≡ Some q) ⊎ (skip_of p c (kind_of p.entered c) ≡ Some q)) (sym same) s,
  )

  ends_there : (places : List Place) (p : Place) → IsReachable j p → EndsAfter j p places → EndsAfter k p places
  ends_there [] p m e =
      let over = (on p m).1 in
      record { clear = over.clear e.clear; last = λ q s. e.last q ((succeeds_there p q (over.ccw e.clear)).1 s) }
  ends_there (q ∷ places) p m e =
      let over = (on p m).1 in
      ((over.clear e.0.0, (succeeds_there p q (over.ccw e.0.0)).0 e.0.1), ends_there places q (p ∷ m.0, (m.1, e.0.0, e.0.1)) e.1)

pub hang_stays : HangStays
hang_stays j t v same p = (
  (λ h. (to.0 h.0, λ can. h.1 (can.0, ends_there there j back can.0 p (to.0 h.0) can.1))),
  λ h. (to.1 h.0, λ can. h.1 (can.0, ends_there j there on can.0 p (to.1 h.0) can.1)),
)
  where
    there : Job
    there = with_storage j t

    counted : IsSameIn (IsVerdictByte j) (storage_of j) (bytes_held t)
    counted = record { same_length = same.same_length; same = λ b c. same.same b (verdict_byte_is_guarded j v b c) }

    reached : (q : Place) → IsReachable j q ↔ IsReachable there q
    reached q = same_reached j there refl (carries_at j t counted) q

    to : IsReachable j p ↔ IsReachable there p
    to = reached p

    on : (q : Place) → IsReachable j q → IsReachable there q × CarriesOver j there q
    on q m = let n = (reached q).0 m in (n, (carries_at j t counted q m n).0)

    back : (q : Place) → IsReachable there q → IsReachable j q × CarriesOver there j q
    back q n = let m = (reached q).1 n in (m, (carries_at j t counted q m n).1)
