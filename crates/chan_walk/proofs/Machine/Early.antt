-- After a yes, a channel that fetches its CCWs early does what the machine does.
use Rattle.chan_walk.proofs.Names.{[], AllByRecursion, ap, arith, At, byte, cases_lt, Checked, Command, Ended, Event, Fetch, Gather, inl, inr, IsGuarded, IsReachable, IsRunAmong, IsSameIn, IsVerdict, Job, length, List, Moment, Place, refl, Seek, SetMask, Stage, Step, Store, storage_of, subst, suc, sym, Yes, ℕ, ◌∙◌, ◌+◌, ◌∷◌, ◌≡◌, ◌≤◌, ◌<◌, ◌⊎◌}
use Rattle.chan_walk.specs.Headline.{HoldsInitialByte, IsAtReachable}
use Rattle.chan_walk.specs.Machine.{StepFrom}
use Rattle.chan_walk.specs.RealRuns.{EarlyRunIsRun, IsRunBy, IsWithEarlyCcw, StepsEarly}
use Rattle.chan_walk.specs.Runs.{Steps}
use Rattle.chan_walk.proofs.Theory.Checks.{check_stands}
use Rattle.chan_walk.proofs.Theory.Faults.{clear_check, yes_clear}
use Rattle.chan_walk.proofs.Machine.Real.{one_of}
use Rattle.chan_walk.proofs.Machine.Storing.{none_stores, step_kept, StoresAt}
use Rattle.chan_walk.proofs.Machine.Waiting.{WaitsSpared}
use Rattle.chan_walk.proofs.Machine.Yes.{guarded_stays, stays_reachable}

-- storage of the same length with the same bytes is the same
equal_by_bytes : (s t : List ℕ) → length s ≡ length t → ((b : ℕ) → byte s b ≡ byte t b) → s ≡ t
equal_by_bytes [] [] long each = refl
equal_by_bytes [] (y ∷ t) long each = absurd (omega (arith, long))
equal_by_bytes (x ∷ s) [] long each = absurd (omega (arith, long))
equal_by_bytes (x ∷ s) (y ∷ t) long each =
    let first : x ≡ y = each 0 in
    let others : s ≡ t = equal_by_bytes s t (omega (arith, long)) (λ b. each (suc b)) in
    cc

-- ---- events store over a byte, or they don't

-- this event stores over no byte outside its range
elsewhere : (a : ℕ) (bytes : List ℕ) (b : ℕ) → (b < a) ⊎ (a + length bytes ≤ b) → StoresAt (Store a bytes ∷ []) b → ⊥
elsewhere a bytes b out (c, some, x, inl same, from, below, at) =
    let here : a ≡ c = cc in
    let all : bytes ≡ some = cc in
    outside here (ap length all) out
  where
    outside : a ≡ c → length bytes ≡ length some → (b < a) ⊎ (a + length bytes ≤ b) → ⊥
    outside here long (inl low) = omega (arith, low, from, at, here)
    outside here long (inr high) = omega (arith, high, below, at, here, long)
elsewhere a bytes b out (c, some, x, inr has, from, below, at) = has

one_stores : (e : Event) (b : ℕ) → StoresAt (e ∷ []) b ⊎ (StoresAt (e ∷ []) b → ⊥)
one_stores (Store a bytes) b = at (cases_lt b a) (cases_lt b (a + length bytes))
  where
    at : (b < a) ⊎ (a ≤ b) → (b < a + length bytes) ⊎ (a + length bytes ≤ b)
        → StoresAt (Store a bytes ∷ []) b ⊎ (StoresAt (Store a bytes ∷ []) b → ⊥)
    at (inl low) u = inr (elsewhere a bytes b (inl low))
    at (inr from) (inl below) = inl (a, bytes, b, inl refl, from, below, refl)
    at (inr from) (inr high) = inr (elsewhere a bytes b (inr high))
one_stores (Command code) b = inr (λ shows. none_stores (Command code ∷ []) (refl, tt) shows.0 shows.1 shows.3)
one_stores (Fetch a n) b = inr (λ shows. none_stores (Fetch a n ∷ []) (refl, tt) shows.0 shows.1 shows.3)
one_stores (Gather addresses) b = inr (λ shows. none_stores (Gather addresses ∷ []) (refl, tt) shows.0 shows.1 shows.3)
one_stores (Seek x) b = inr (λ shows. none_stores (Seek x ∷ []) (refl, tt) shows.0 shows.1 shows.3)
one_stores (SetMask a x) b = inr (λ shows. none_stores (SetMask a x ∷ []) (refl, tt) shows.0 shows.1 shows.3)

stores_or_not : (es : List Event) (b : ℕ) → StoresAt es b ⊎ (StoresAt es b → ⊥)
stores_or_not [] b = inr (λ shows. shows.3)
stores_or_not (e ∷ es) b = either (one_stores e b) (stores_or_not es b)
  where
    neither : (StoresAt (e ∷ []) b → ⊥) → (StoresAt es b → ⊥) → StoresAt (e ∷ es) b → ⊥
    neither first others (a, bytes, x, inl same, from, below, at) = first (a, bytes, x, inl same, from, below, at)
    neither first others (a, bytes, x, inr has, from, below, at) = others (a, bytes, x, has, from, below, at)

    either : StoresAt (e ∷ []) b ⊎ (StoresAt (e ∷ []) b → ⊥) → StoresAt es b ⊎ (StoresAt es b → ⊥)
        → StoresAt (e ∷ es) b ⊎ (StoresAt (e ∷ es) b → ⊥)
    either (inl (a, bytes, x, inl same, from, below, at)) u = inl (a, bytes, x, inl same, from, below, at)
    either (inl (a, bytes, x, inr has, from, below, at)) u = absurd has
    either (inr first) (inl (a, bytes, x, has, from, below, at)) = inl (a, bytes, x, inr has, from, below, at)
    either (inr first) (inr others) = inr (neither first others)

-- ---- steps

module _ (j : Job) (v : IsVerdict j Yes) where
  abbrev IsKept : Moment → Type 0
  IsKept m = (b : ℕ) → IsGuarded j b → HoldsInitialByte j b m

  -- a CCW that was fetched early is the one that is there
  is_there : (p : Place) (early m : Moment) (s : List ℕ) → IsReachable j p → IsKept early → IsKept m
      → IsWithEarlyCcw p.address early m s → s ≡ m.storage
  is_there p early m s reached then now f = equal_by_bytes s m.storage f.same_length each
    where
      in_ccw : (b : ℕ) → p.address ≤ b → b < p.address + 8 → IsGuarded j b
      in_ccw b from below = inl (record {
        place = p;
        reached = reached;
        stands = check_stands (storage_of j) p (clear_check j p (yes_clear j v p reached));
        from = from;
        below = below;
      })

      at : (b : ℕ) → (b < p.address) ⊎ (p.address ≤ b) → (b < p.address + 8) ⊎ (p.address + 8 ≤ b) → byte s b ≡ byte m.storage b
      at b (inl low) u = f.others b (inl low)
      at b (inr from) (inl below) = let g = in_ccw b from below in f.ccw b from below ∙ then b g ∙ sym (now b g)
      at b (inr from) (inr high) = f.others b (inr high)

      each : (b : ℕ) → byte s b ≡ byte m.storage b
      each b = at b (cases_lt b p.address) (cases_lt b (p.address + 8))

  early_step_is_step : (ms : List Moment) (m n : Moment) → AllByRecursion IsKept (m ∷ ms) → IsAtReachable j m.stage → StepsEarly ms m n → Steps m n
  early_step_is_step ms m n kept at s =
      subst (λ stage. StepFrom m.storage m.arm m.mask stage n.events n.storage n.arm n.mask n.stage) (sym s.stage)
      (subst (λ t. Step m.storage m.arm m.mask s.place s.gathered n.events t n.arm n.mask n.stage) (sym (equal_by_bytes n.storage s.stored long each)) now)
    where
      fetched : s.fetched ≡ m.storage
      fetched = is_there s.place s.early m s.fetched (subst (λ stage. IsAtReachable j stage) s.stage at)
          (one_of IsKept (m ∷ ms) s.early kept s.is_before) kept.0 s.is_fetched

      now : Step m.storage m.arm m.mask s.place s.gathered n.events s.stored n.arm n.mask n.stage
      now = subst (λ z. Step z m.arm m.mask s.place s.gathered n.events s.stored n.arm n.mask n.stage) fetched s.step

      only : IsSameIn (λ b. StoresAt n.events b → ⊥) m.storage s.stored
      only = step_kept now

      long : length n.storage ≡ length s.stored
      long = s.same_length ∙ sym only.same_length

      each_by : (b : ℕ) → StoresAt n.events b ⊎ (StoresAt n.events b → ⊥) → byte n.storage b ≡ byte s.stored b
      each_by b (inl shows) = s.at_once b shows
      each_by b (inr never) = s.others b never ∙ sym (only.same b never)

      each : (b : ℕ) → byte n.storage b ≡ byte s.stored b
      each b = each_by b (stores_or_not n.events b)

  there : (run : List Moment) → IsRunBy StepsEarly (IsGuarded j) j run → IsRunAmong (IsGuarded j) j run
  there [] r = absurd r
  there (m ∷ []) r = r
  there (n ∷ m ∷ ms) r = let before = there (m ∷ ms) r.0 in (before, next before r.1)
    where
      next : IsRunAmong (IsGuarded j) j (m ∷ ms) → StepsEarly ms m n ⊎ WaitsSpared j m n → Steps m n ⊎ WaitsSpared j m n
      next before (inl s) = inl (early_step_is_step ms m n (guarded_stays j v (m ∷ ms) before) (stays_reachable j v (m ∷ ms) before).0 s)
      next before (inr w) = inr w

step_is_early : (ms : List Moment) (m n : Moment) → Steps m n → StepsEarly ms m n
step_is_early ms m n w = from m.stage refl w
  where
    from : (at : Stage) → m.stage ≡ at → StepFrom m.storage m.arm m.mask at n.events n.storage n.arm n.mask n.stage → StepsEarly ms m n
    from (At p g) is w = let kept = step_kept w in record {
      place = p;
      gathered = g;
      early = m;
      fetched = m.storage;
      stored = n.storage;
      stage = is;
      is_before = inl refl;
      is_fetched = record { same_length = refl; ccw = λ b from below. refl; others = λ b out. refl };
      step = w;
      same_length = kept.same_length;
      at_once = λ b shows. refl;
      others = λ b never. kept.same b never;
    }
    from Ended is w = absurd w
    from (Checked r) is w = absurd w

back : (j : Job) (run : List Moment) → IsRunAmong (IsGuarded j) j run → IsRunBy StepsEarly (IsGuarded j) j run
back j [] r = absurd r
back j (m ∷ []) r = r
back j (n ∷ m ∷ ms) r = (back j (m ∷ ms) r.0, next r.1)
  where
    next : Steps m n ⊎ WaitsSpared j m n → StepsEarly ms m n ⊎ WaitsSpared j m n
    next (inl w) = inl (step_is_early ms m n w)
    next (inr w) = inr w

pub early_run_is_run : EarlyRunIsRun
early_run_is_run j v run = (there j v run, back j run)
