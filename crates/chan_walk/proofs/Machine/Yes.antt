-- Where the verdict is yes: guarded bytes never change, every place is reachable, every run is safe and the job is steady.
use Rattle.chan_walk.proofs.Names.{[], AllByRecursion, allows, ap, At, begins_seek, Bool, both_ways, byte, carried, ccw, ccw_of, ChangesArgument, ChangesCcw, Checked, checked, Ended, Event, false, Fields, Gathered, HasArgument, HasMask, HoldsInitialByte, if◌then◌else◌, inl, inr, is_at_least, is_known, is_none, is_refused, is_transfer, IsClear, IsGuarded, IsReachable, IsRun, IsRunAmong, IsSafeEvent, IsSafeMoment, IsSameIn, IsSpared, IsVerdict, Job, kind_of, length, List, MeetsNoProgramCheck, Moment, None, not-false, Option, Outward, Place, program_check, program_check_of, refl, rules, Some, Stage, Step, storage_of, subst, sym, transferred, transferred_to, true, unknown, Uses, UsesIn, UsesInArgument, UsesInCcw, Yes, YesIsSafe, YesIsSafeAmong, ℕ, ◌∙◌, ◌∷◌, ◌≡◌, ◌⊎◌}
use Rattle.chan_walk.specs.Headline.{IsAtReachable, GathersPart, GuardedStays, StaysReachable, GathersArguments}
use Rattle.chan_walk.specs.Machine.{StepFrom}
use Rattle.chan_walk.specs.Runs.{IsStart, Steps, UsesAt}
use Rattle.chan_walk.specs.Verdict.{MayStoreOver}
use Rattle.chan_walk.proofs.Theory.Checks.{check_stands}
use Rattle.chan_walk.proofs.Theory.Commands.{seek_is_outward}
use Rattle.chan_walk.proofs.Theory.Faults.{IsGood, clear_check, clear_good, yes_clear}
use Rattle.chan_walk.proofs.Theory.Follows.{FollowsBy, by_transfer, succeeds}
use Rattle.chan_walk.proofs.Machine.Gathering.{advance, transfer_on, begin}
use Rattle.chan_walk.proofs.Machine.Invariant.{Under, IsStageKept, Same, Invariant, Coming, SeekComes, Here, Stepped, carried_ok}
use Rattle.chan_walk.proofs.Machine.Storing.{CcwStoresAt, step_only, StoresAt, stores_there}
use Rattle.chan_walk.proofs.Machine.Waiting.{WaitsSpared, waits_kept}
use Rattle.chan_walk.proofs.Theory.Lists.{all_map}
use Rattle.chan_walk.proofs.Theory.Masks.{strict_as_itself}
use Rattle.chan_walk.proofs.Theory.SameCcws.{same_ccw}

-- a seek that begins goes out, as its table entry says
pub fresh_out : (p : Place) (c : Fields) → begins_seek p c ≡ true → kind_of p.entered c ≡ Outward
fresh_out p c h = search (rules, seek_is_outward)

module _ (j : Job) (v : IsVerdict j Yes) where
  clear_at : (p : Place) → IsReachable j p → IsClear j p
  clear_at = yes_clear j v

  pub onward : (p q : Place) → IsReachable j p → FollowsBy p (ccw_of j p) (kind_of p.entered (ccw_of j p)) q → IsReachable j q
  onward p q r f = (p ∷ r.0, (r.1, clear_at p r, succeeds _ _ _ _ f))

  apart_at : (P : ℕ → Type 0) → (MayStoreOver j P → ⊥) → (p : Place) → IsReachable j p → (b : ℕ) → P b → CcwStoresAt p (ccw_of j p) b → ⊥
  apart_at P never p r b h u = never (p, r, record { stores = u.0; at = b; from = u.1; below = u.2; holds = h })

  pub no_change : MayStoreOver j (IsGuarded j) → ⊥
  no_change u = go u.2.holds
    where
      go : IsGuarded j u.2.at → ⊥
      go (inl h) = v u.0 ChangesCcw u.1 (inr (clear_at, inl (refl, record { stores = u.2.stores; at = u.2.at; from = u.2.from; below = u.2.below; holds = h })))
      go (inr h) =
          v u.0 ChangesArgument u.1 (inr (clear_at, inr (refl, record { stores = u.2.stores; at = u.2.at; from = u.2.from; below = u.2.below; holds = h })))

  ccw_kept : (s : List ℕ) (p : Place) → Same j s → IsReachable j p → ccw s p.address ≡ ccw_of j p
  ccw_kept s p same r =
      let st = check_stands (storage_of j) p (clear_check j p (clear_at p r)) in
      same_ccw s (storage_of j) p.address (λ b le lt. same b (inl (record { place = p; reached = r; stands = st; from = le; below = lt })))

  here_at : (p : Place) (g : Gathered) → IsReachable j p → Under j p g → is_transfer (ccw_of j p) ≡ false → Here j p (ccw_of j p) g
  here_at p g r u t = record {
    x = f.0;
    good = good;
    follows = λ q w. onward p q r w;
    apart = apart_at (IsGuarded j) no_change p r;
    seek = come (begins_seek p (ccw_of j p)) g u refl;
    mask = λ e. inr (record { place = p; reached = r; clear = f; takes = inr (record { sets = e; at = refl }) });
  }
    where
      f : IsClear j p
      f = clear_at p r

      good : IsGood j p (ccw_of j p) f.0
      good = clear_good j p f t

      old : (g : Gathered) → Under j p g → SeekComes j p (ccw_of j p) g
      old None u = tt
      old (Some x) u = record {
        l = u.1;
        sought = u.2;
        before = u.3.before;
        advance = λ m le. advance (storage_of j) u.1 p x m u.3 t le;
        outward = ap (λ e. kind_of e (ccw_of j p)) u.0;
      }

      new : begins_seek p (ccw_of j p) ≡ true → (x : Option (List ℕ)) → HasArgument (storage_of j) p.address x
          → is_none x ≡ false → is_refused j x ≡ false → Coming j p (ccw_of j p) []
      new e None h miss ref = absurd (cc)
      new e (Some x) h miss ref = record {
        l = h.0;
        sought = record {
          guarded = λ b k. record { place = p; reached = r; clear = f; takes = inl (record { seeks = e; chain = h.0; is_chain = h.1; has = k }) };
          allowed = subst (λ z. allows j z ≡ true) h.2 (not-false _ ref);
          seek = p;
          reached = r;
          seeks = e;
          is_chain = h.1;
        };
        before = [];
        advance = λ m le. advance (storage_of j) h.0 p [] m (begin (storage_of j) h.0 p h.1) t le;
        outward = fresh_out p (ccw_of j p) e;
      }

      come : (b : Bool) (g : Gathered) → Under j p g → begins_seek p (ccw_of j p) ≡ b → SeekComes j p (ccw_of j p) (if b then Some [] else g)
      come true g u e = new e f.0 f.1 (good.argued e) (good.allowed e)
      come false g u e = old g u

  step_ok : {s : List ℕ} {y f : ℕ} {p : Place} {g : Gathered} {es : List Event} {t : List ℕ} {y' f' : ℕ} {st : Stage}
      → Step s y f p g es t y' f' st → Invariant j s y f (At p g) → Stepped j t y' f' st es
  step_ok {s = s} {p = p} (checked {r = r} e) k =
      let c = ccw_kept s p k.same k.stage.0 in
      let same : program_check s p ≡ program_check (storage_of j) p =
      ap (λ n. program_check_of n p (ccw s p.address)) k.same_length ∙ ap (λ z. program_check_of (length (storage_of j)) p z) c in
      let n : program_check (storage_of j) p ≡ None = clear_check j p (clear_at p k.stage.0) in
      absurd (cc)
  step_ok {s = s} {y = y} {f = f} {p = p} {g = g} (transferred e t) k =
      let c = ccw_kept s p k.same k.stage.0 in
      let t' : is_transfer (ccw_of j p) ≡ true = ap is_transfer (sym c) ∙ t in
      record {
        kept = subst (λ z. Invariant j s y f (At (transferred_to z.address p.entered) g)) (sym c)
            (record {
              same_length = k.same_length;
              same = k.same;
              inside = k.inside;
              strict = k.strict;
              stage = (onward p _ k.stage.0 (by_transfer t'), carry g t' k.stage.1);
            });
        safe = tt;
        used = λ b u. absurd u;
      }
    where
      carry : (g : Gathered) → is_transfer (ccw_of j p) ≡ true → Under j p g → Under j (transferred_to (ccw_of j p).address p.entered) g
      carry None t' u = tt
      carry (Some x) t' u = (u.0, u.1, u.2, transfer_on (storage_of j) u.1 p x u.3 t')
  step_ok {s = s} {p = p} {g = g} (unknown e t fr un) k =
      let c = ccw_kept s p k.same k.stage.0 in
      let t' : is_transfer (ccw_of j p) ≡ false = ap is_transfer (sym c) ∙ t in
      let known = (here_at p g k.stage.0 k.stage.1 t').good.known fr in
      absurd (both_ways _ un (ap (λ z. is_known z.command) c ∙ known))
  step_ok {s = s} {p = p} {g = g} (carried e t known le mv sk hm fm gs) k =
      let c = ccw_kept s p k.same k.stage.0 in
      let t' : is_transfer (ccw_of j p) ≡ false = ap is_transfer (sym c) ∙ t in
      carried_ok j p (ccw s p.address) g (subst (λ z. Here j p z g) (sym c) (here_at p g k.stage.0 k.stage.1 t')) k t le mv sk hm fm gs

  pub from_ok : {s : List ℕ} {y f : ℕ} (at : Stage) {es : List Event} {t : List ℕ} {y' f' : ℕ} {st : Stage}
      → StepFrom s y f at es t y' f' st → Invariant j s y f at → Stepped j t y' f' st es
  from_ok at w k = search (rules, step_ok)

  -- a step changes only what the program may store over
  pub step_spares : (P : ℕ → Type 0) → (MayStoreOver j P → ⊥) → (s : List ℕ) (y f : ℕ) (at : Stage) (es : List Event) (t : List ℕ) (y' f' : ℕ) (st : Stage)
      → StepFrom s y f at es t y' f' st → Invariant j s y f at → IsSameIn P s t
  step_spares P never s y f (At p g) es t y' f' st w k =
      let o = step_only w in
      record {
        same_length = o.same_length;
        same = λ b h. o.same b (λ u. apart_at P never p k.stage.0 b h (subst (λ c. CcwStoresAt p c b) (ccw_kept s p k.same k.stage.0) u));
      }
  step_spares P never s y f Ended es t y' f' st w k = absurd w
  step_spares P never s y f (Checked r) es t y' f' st w k = absurd w

  -- a step shows no store over a guarded byte
  pub shows_spared : (s : List ℕ) (y f : ℕ) (at : Stage) (es : List Event) (t : List ℕ) (y' f' : ℕ) (st : Stage)
      → StepFrom s y f at es t y' f' st → Invariant j s y f at → (b : ℕ) → IsGuarded j b → StoresAt es b → ⊥
  shows_spared s y f (At p g) es t y' f' st w k b guarded shows =
      apart_at (IsGuarded j) no_change p k.stage.0 b guarded
      (subst (λ c. CcwStoresAt p c b) (ccw_kept s p k.same k.stage.0) (stores_there w b shows))
  shows_spared s y f Ended es t y' f' st w k b guarded shows = w
  shows_spared s y f (Checked r) es t y' f' st w k b guarded shows = w

  -- ---- a run

  -- what is known of each moment
  abbrev pub IsOk : Moment → Type 0
  IsOk m = Stepped j m.storage m.arm m.mask m.stage m.events

  pub without_events : (m : Moment) → m.events ≡ [] → Invariant j m.storage m.arm m.mask m.stage → IsOk m
  without_events m e k = record {
    kept = k;
    safe = subst (λ es. AllByRecursion (IsSafeEvent j) es) (sym e) tt;
    used = λ b u. absurd (subst (λ es. UsesIn es b) e u);
  }

  pub start_ok : (m : Moment) → IsStart j m → IsOk m
  start_ok m r = without_events m r.events (record {
    same_length = ap length r.storage;
    same = λ b g. ap (λ z. byte z b) r.storage;
    inside = r.arm;
    strict = λ h. subst (λ z. is_at_least z j.mask ≡ true) (sym r.mask) (strict_as_itself j.mask h);
    stage = subst (λ z. IsStageKept j z) (sym r.stage) (([], refl), tt);
  })

  next_ok : (m n : Moment) → Steps m n ⊎ WaitsSpared j m n → IsOk m → IsOk n
  next_ok m n (inl w) k = from_ok m.stage w k.kept
  next_ok m n (inr w) k = without_events n w.0.events (waits_kept j m n w k.kept)

  pub each_ok : (ms : List Moment) → IsSpared j ms → AllByRecursion IsOk ms
  each_ok [] r = absurd r
  each_ok (m ∷ []) r = (start_ok m r, tt)
  each_ok (n ∷ m ∷ ms) r = let k = each_ok (m ∷ ms) r.0 in (next_ok m n r.1 k.0, k)

  -- what holds of a moment because it is kept holds of each
  pub all_kept : (P : Moment → Type 0) → ((m : Moment) → Invariant j m.storage m.arm m.mask m.stage → P m)
      → (ms : List Moment) → IsSpared j ms → AllByRecursion P ms
  all_kept P f ms r = all_map IsOk P (λ m k. f m k.kept) ms (each_ok ms r)

  pub unchecked : (st : Stage) → IsStageKept j st → MeetsNoProgramCheck st
  unchecked st k = search rules

  is_safe : HasMask j → (m : Moment) → IsOk m → IsSafeMoment j m
  is_safe h m k = record { unchecked = unchecked m.stage k.kept.stage; inside = k.kept.inside; strict = k.kept.strict h; events = k.safe }

  -- each byte that a run uses is guarded, if each moment uses only guarded ones
  abbrev pub UsesGuarded : Moment → Type 0
  UsesGuarded m = (b : ℕ) → UsesAt m.storage m.stage b ⊎ UsesIn m.events b → IsGuarded j b

  used_at : (s : List ℕ) (st : Stage) (b : ℕ) → length s ≡ length (storage_of j) → IsStageKept j st → UsesAt s st b → IsGuarded j b
  used_at s st b n k u = search rules

  pub uses_guarded : (y : ℕ) (m : Moment) → Stepped j m.storage y m.mask m.stage m.events → UsesGuarded m
  uses_guarded y m k b (inl u) = used_at m.storage m.stage b k.kept.same_length k.kept.stage u
  uses_guarded y m k b (inr u) = k.used b u

  in_ccw_guarded : (ms : List Moment) (b : ℕ) → AllByRecursion UsesGuarded ms → UsesInCcw ms b → IsGuarded j b
  in_ccw_guarded [] b k u = absurd u
  in_ccw_guarded (m ∷ ms) b k (inl u) = k.0 b (inl u)
  in_ccw_guarded (m ∷ ms) b k (inr u) = in_ccw_guarded ms b k.1 u

  in_argument_guarded : (ms : List Moment) (b : ℕ) → AllByRecursion UsesGuarded ms → UsesInArgument ms b → IsGuarded j b
  in_argument_guarded [] b k u = absurd u
  in_argument_guarded (m ∷ ms) b k (inl u) = k.0 b (inr u)
  in_argument_guarded (m ∷ ms) b k (inr u) = in_argument_guarded ms b k.1 u

  pub all_guarded : (ms : List Moment) (b : ℕ) → AllByRecursion UsesGuarded ms → Uses ms b → IsGuarded j b
  all_guarded ms b k h = search (rules, in_ccw_guarded, in_argument_guarded)

  pub used_guarded : (ms : List Moment) (b : ℕ) → AllByRecursion IsOk ms → Uses ms b → IsGuarded j b
  used_guarded ms b k h = all_guarded ms b (all_map IsOk UsesGuarded (λ m k. uses_guarded m.arm m k) ms k) h

  at_reachable : (st : Stage) → IsStageKept j st → IsAtReachable j st
  at_reachable st k = search rules

  part_of : (p : Place) (g : Gathered) → Under j p g → GathersPart j (At p g)
  part_of p g u = search rules

  gathers : (st : Stage) → IsStageKept j st → GathersPart j st
  gathers st k = search (rules, part_of)

pub guarded_stays : GuardedStays
guarded_stays j v = all_kept j v _ (λ m k b g. k.same b g)

pub stays_reachable : StaysReachable
stays_reachable j v = all_kept j v _ (λ m k. at_reachable j v m.stage k.stage)

pub gathers_arguments : GathersArguments
gathers_arguments j v = all_kept j v _ (λ m k. gathers j v m.stage k.stage)

pub yes_is_safe_among : YesIsSafeAmong
yes_is_safe_among j h v = (
  λ run r. all_map _ (IsSafeMoment j) (is_safe j v h) run (each_ok j v run r),
  λ used run b r u s. all_kept j v (HoldsInitialByte j b) (λ m k. k.same b (used_guarded j v used b (each_ok j v used r) u)) run s,
)

-- a run by itself is one among others that do nothing
pub alone : (P : ℕ → Type 0) (j : Job) (ms : List Moment) → IsRun j ms → IsRunAmong P j ms
alone P j [] r = absurd r
alone P j (m ∷ []) r = r
alone P j (n ∷ m ∷ ms) r = (alone P j (m ∷ ms) r.0, inl r.1)

pub yes_is_safe : YesIsSafe
yes_is_safe j h v =
    let a = yes_is_safe_among j h v in
    (λ run r. a.0 run (alone _ j run r), λ used run b r u s. a.1 used run b (alone _ j used r) u (alone _ j run s))
