-- A yes holds on a real channel with a real disk too, and these can do all that the machine does.
use Rattle.chan_walk.proofs.Names.{[], AllByRecursion, At, Checked, Ended, extents_of, Gathered, Has, has_cylinder, HasMask, HoldsInitialByte, inl, inr, IsGuarded, IsSameIn, IsVerdict, Job, List, Moment, Place, refl, Seek, Some, Stage, Store, subst, sym, true, Uses, Yes, ℕ, ◌∙◌, ◌∷◌, ◌≡◌, ◌⊎◌}
use Rattle.chan_walk.specs.Machine.{StepFrom}
use Rattle.chan_walk.specs.RealRuns.{EachRunIsReal, HasStored, IsRealRun, IsSafeForReal, StepsForReal, YesIsSafeForReal}
use Rattle.chan_walk.specs.Runs.{IsStart, Steps}
use Rattle.chan_walk.proofs.Theory.Lists.{all_map}
use Rattle.chan_walk.proofs.Machine.Invariant.{Invariant, IsStageKept, Stepped}
use Rattle.chan_walk.proofs.Machine.Storing.{step_kept, StoresAt}
use Rattle.chan_walk.proofs.Machine.Waiting.{WaitsSpared, waits_kept}
use Rattle.chan_walk.proofs.Machine.Yes.{all_guarded, from_ok, shows_spared, start_ok, unchecked, UsesGuarded, uses_guarded, without_events}

-- what holds of each moment holds of one
pub one_of : (P : Moment → Type 0) (ms : List Moment) (m : Moment) → AllByRecursion P ms → Has ms m → P m
one_of P [] m all has = absurd has
one_of P (n ∷ ms) m all (inl same) = subst P same all.0
one_of P (n ∷ ms) m all (inr has) = one_of P ms m all.1 has

module _ (j : Job) (v : IsVerdict j Yes) where
  -- what is known of a moment: all that a step keeps, with the arm where the last step put it, which
  -- is where it is unless the program has ended
  record IsKept (m : Moment) : Type 0 where
    arm : ℕ
    ok : Stepped j m.storage arm m.mask m.stage m.events
    at : (m.arm ≡ arm) ⊎ (m.stage ≡ Ended)
    spares : (b : ℕ) → IsGuarded j b → StoresAt m.events b → ⊥

  begins : (m : Moment) → IsStart j m → IsKept m
  begins m r = record {
    arm = m.arm;
    ok = start_ok j v m r;
    at = inl refl;
    spares = λ b g shows. subst (λ es. Has es (Store shows.0 shows.1)) r.events shows.3;
  }

  waits : (m n : Moment) → WaitsSpared j m n → IsKept m → IsKept n
  waits m n w k =
      let before : Moment = record m { arm = k.arm } in
      let after : Moment = record n { arm = k.arm } in
      let still : WaitsSpared j before after = (record { arm = refl; mask = w.0.mask; stage = w.0.stage; events = w.0.events }, w.1) in
      record {
        arm = k.arm;
        ok = without_events j v after w.0.events (waits_kept j before after still k.ok.kept);
        at = moved k.at;
        spares = λ b g shows. subst (λ es. Has es (Store shows.0 shows.1)) w.0.events shows.3;
      }
    where
      moved : (m.arm ≡ k.arm) ⊎ (m.stage ≡ Ended) → (n.arm ≡ k.arm) ⊎ (n.stage ≡ Ended)
      moved (inl e) = inl (w.0.arm ∙ e)
      moved (inr e) = inr (w.0.stage ∙ e)

  steps : (ms : List Moment) (m n : Moment) → StepsForReal ms m n → AllByRecursion IsKept (m ∷ ms) → IsKept n
  steps ms m n s k = land s.lands
    where
      here : (m.arm ≡ k.0.arm) ⊎ (m.stage ≡ Ended) → m.arm ≡ k.0.arm
      here (inl e) = e
      here (inr e) = absurd (subst (λ st. StepFrom s.fetched m.arm m.mask st n.events s.stored s.arm n.mask s.stage) e s.step)

      known : Invariant j s.fetched m.arm m.mask m.stage
      known = record {
        same_length = s.is_fetched.same_length ∙ k.0.ok.kept.same_length;
        same = λ b g.
            let from = s.is_fetched.bytes b in
            from.2 ∙ (one_of IsKept (m ∷ ms) from.0 k from.1).ok.kept.same b g;
        inside = subst (λ y. has_cylinder (extents_of j) y ≡ true) (sym (here k.0.at)) k.0.ok.kept.inside;
        strict = k.0.ok.kept.strict;
        stage = k.0.ok.kept.stage;
      }

      next : Stepped j s.stored s.arm n.mask s.stage n.events
      next = from_ok j v m.stage s.step known

      spared : (b : ℕ) → IsGuarded j b → StoresAt n.events b → ⊥
      spared = shows_spared j v s.fetched m.arm m.mask m.stage n.events s.stored s.arm n.mask s.stage s.step known

      never : (b : ℕ) → IsGuarded j b → HasStored (n ∷ m ∷ ms) b → ⊥
      never b g (l, inl same, shows) = spared b g (subst (λ (z : Moment). StoresAt z.events b) (sym same) shows)
      never b g (l, inr has, shows) = (one_of IsKept (m ∷ ms) l k has).spares b g shows

      kept_with : IsStageKept j n.stage → Invariant j n.storage s.arm n.mask n.stage
      kept_with stage = record {
        same_length = s.same_length ∙ k.0.ok.kept.same_length;
        same = λ b g. s.others b (never b g) ∙ k.0.ok.kept.same b g;
        inside = next.kept.inside;
        strict = next.kept.strict;
        stage = stage;
      }

      land : ((n.arm ≡ s.arm) × (n.stage ≡ s.stage)) ⊎ ((n.stage ≡ Ended) × (x : List ℕ) × Has n.events (Seek (Some x))) → IsKept n
      land (inl h) = record {
        arm = s.arm;
        ok = record { kept = kept_with (subst (IsStageKept j) (sym h.1) next.kept.stage); safe = next.safe; used = next.used };
        at = inl h.0;
        spares = spared;
      }
      land (inr h) = record {
        arm = s.arm;
        ok = record { kept = kept_with (subst (IsStageKept j) (sym h.0) tt); safe = next.safe; used = next.used };
        at = inr h.0;
        spares = spared;
      }

  each_kept : (run : List Moment) → IsRealRun (IsGuarded j) j run → AllByRecursion IsKept run
  each_kept [] r = absurd r
  each_kept (m ∷ []) r = (begins m r, tt)
  each_kept (n ∷ m ∷ ms) r = let k = each_kept (m ∷ ms) r.0 in (one_more r.1 k, k)
    where
      one_more : StepsForReal ms m n ⊎ WaitsSpared j m n → AllByRecursion IsKept (m ∷ ms) → IsKept n
      one_more (inl s) k = steps ms m n s k
      one_more (inr w) k = waits m n w k.0

  is_safe : HasMask j → (m : Moment) → IsKept m → IsSafeForReal j m
  is_safe mask m k = record {
    unchecked = unchecked j v m.stage k.ok.kept.stage;
    inside = λ p g e. inside p g e k.at;
    strict = k.ok.kept.strict mask;
    events = k.ok.safe;
  }
    where
      inside : (p : Place) (g : Gathered) → m.stage ≡ At p g → (m.arm ≡ k.arm) ⊎ (m.stage ≡ Ended) → has_cylinder (extents_of j) m.arm ≡ true
      inside p g e (inl same) = subst (λ y. has_cylinder (extents_of j) y ≡ true) (sym same) k.ok.kept.inside
      inside p g e (inr ended) = let both : At p g ≡ Ended = sym e ∙ ended in cc

  pub safe_for_real : HasMask j → (run : List Moment) → IsRealRun (IsGuarded j) j run → AllByRecursion (IsSafeForReal j) run
  safe_for_real mask run r = all_map IsKept (IsSafeForReal j) (is_safe mask) run (each_kept run r)

  pub steady_for_real : (used run : List Moment) (b : ℕ) → IsRealRun (IsGuarded j) j used → Uses used b → IsRealRun (IsGuarded j) j run
      → AllByRecursion (HoldsInitialByte j b) run
  steady_for_real used run b r u s =
      let guarded = all_guarded j v used b (all_map IsKept (UsesGuarded j v) (λ m k. uses_guarded j v k.arm m k.ok) used (each_kept used r)) u in
      all_map IsKept (HoldsInitialByte j b) (λ m k. k.ok.kept.same b guarded) run (each_kept run s)

pub yes_is_safe_for_real : YesIsSafeForReal
yes_is_safe_for_real j mask v = (safe_for_real j v mask, steady_for_real j v)

-- what a step of the machine is for real: the channel fetches what is there, and stores at once
from_step : (ms : List Moment) (m n : Moment) → Steps m n → StepsForReal ms m n
from_step ms m n w =
    let kept = changed m.stage w in
    record {
      fetched = m.storage;
      stored = n.storage;
      arm = n.arm;
      stage = n.stage;
      is_fetched = record { same_length = refl; bytes = λ b. (m, inl refl, refl) };
      step = w;
      lands = inl (refl, refl);
      same_length = kept.same_length;
      others = λ b never. kept.same b (λ shows. never (n, inl refl, shows));
    }
  where
    changed : (at : Stage) → StepFrom m.storage m.arm m.mask at n.events n.storage n.arm n.mask n.stage
        → IsSameIn (λ b. StoresAt n.events b → ⊥) m.storage n.storage
    changed (At p g) w = step_kept w
    changed Ended w = absurd w
    changed (Checked r) w = absurd w

pub each_run_is_real : EachRunIsReal
each_run_is_real j [] r = absurd r
each_run_is_real j (m ∷ []) r = r
each_run_is_real j (n ∷ m ∷ ms) r = (each_run_is_real j (m ∷ ms) r.0, next r.1)
  where
    next : Steps m n ⊎ WaitsSpared j m n → StepsForReal ms m n ⊎ WaitsSpared j m n
    next (inl w) = inl (from_step ms m n w)
    next (inr w) = inr w
