-- Two programs side by side are a history: the one starts, then the other, and then they run.
use Rattle.chan_needs.proofs.Names.{[], AllByRecursion, ap, AreJobsCompatible, AreFlightsWell, BeginsSinceAsked, byte, Flight, HasMask, inl, inr, IsGuarded, IsHistory, IsNextSituation, IsStart, Job, length, List, map, MayStart, MayStoreOver, Moment, None, Option, ProgramWaits, refl, Situation, Some, Steps, subst, suc, Waits, zero, ℕ, ◌++◌, ◌∷◌, ◌≡◌, ◌⊎◌}
use Rattle.chan_needs.specs.SideBySide.{TwoMoments, moments_of_one, moments_of_other, AreRunning, SafeSideBySide}
use Rattle.chan_walk.specs.Headline.{IsSafeMoment}
use Rattle.chan_needs.proofs.History.{stays_well}

begins : (j : Job) (m : Moment) → IsStart j m → BeginsSinceAsked j m
begins j m s = record {
  storage = record { same_length = ap length s.storage; same = λ b _. ap (λ z. byte z b) s.storage };
  arm = s.arm;
  mask = s.mask;
  stage = s.stage;
  events = s.events;
}

stays : (m : Moment) → m.events ≡ [] → Waits m m
stays m e = record { arm = refl; mask = refl; stage = refl; events = e }

-- ---- what is in flight at 0 and at 1

abbrev slots : Option Flight → Option Flight → ℕ → Option Flight
slots x y zero = x
slots x y (suc zero) = y
slots x y (suc (suc n)) = None

abbrev IsOn : List ℕ → Option Flight → Type 0
IsOn s x = (f : Flight) → x ≡ Some f → f.moment.storage ≡ s

slots_on : (s : List ℕ) (x y : Option Flight) → IsOn s x → IsOn s y → (n : ℕ) → IsOn s (slots x y n)
slots_on s x y a b zero = a
slots_on s x y a b (suc zero) = b
slots_on s x y a b (suc (suc n)) = λ f e. absurd cc

none_on : (s : List ℕ) → IsOn s None
none_on s f e = absurd cc

some_on : (s : List ℕ) (g : Flight) → g.moment.storage ≡ s → IsOn s (Some g)
some_on s g h f e = let t : g ≡ f = cc in subst (λ (z : Flight). z.moment.storage ≡ s) t h

others : (i : ℕ) (x y x' y' : Option Flight) → (0 ≡ i) ⊎ ProgramWaits x x' → (1 ≡ i) ⊎ ProgramWaits y y' → (n : ℕ) → (n ≡ i)
    ⊎ ProgramWaits (slots x y n) (slots x' y' n)
others i x y x' y' a b zero = a
others i x y x' y' a b (suc zero) = b
others i x y x' y' a b (suc (suc n)) = inr tt

module _ (j k : Job) (h : HasMask j) (i : HasMask k) (compatible : AreJobsCompatible j k) where
  abbrev one_of : TwoMoments → Option Flight
  one_of m = Some (record { job = j; moment = m.one })

  abbrev other_of : TwoMoments → Option Flight
  other_of m = Some (record { job = k; moment = m.other })

  -- first none is in flight, then the one, then both
  abbrev none : TwoMoments → Situation
  none m = record { storage = m.one.storage; at = slots None None; shared = slots_on _ None None (none_on _) (none_on _) }

  abbrev one : TwoMoments → Situation
  one m = record { storage = m.one.storage; at = slots (one_of m) None; shared = slots_on _ (one_of m) None (some_on _ _ refl) (none_on _) }

  abbrev both : TwoMoments → Situation
  both m = record {
    storage = m.one.storage;
    at = slots (one_of m) (other_of m);
    shared = slots_on _ (one_of m) (other_of m) (some_on _ _ refl) (some_on _ _ m.shared);
  }

  one_starts : (m : TwoMoments) → IsStart j m.one → IsNextSituation (none m) (one m)
  one_starts m s = inl (0, (may, refl), others 0 None None (one_of m) None (inl refl) (inr tt))
    where
      no_one : (n : ℕ) (g : Flight) → slots None None n ≡ Some g → ⊥
      no_one zero g e = absurd cc
      no_one (suc zero) g e = absurd cc
      no_one (suc (suc n)) g e = absurd cc

      may : MayStart (none m) (record { job = j; moment = m.one })
      may = record {
        mask = h;
        verdict = compatible.one;
        begins = begins j m.one s;
        spares = λ n g e. absurd (no_one n g e);
        spared = λ n g e. absurd (no_one n g e);
      }

  other_starts : (m : TwoMoments) → IsStart j m.one → IsStart k m.other → IsNextSituation (one m) (both m)
  other_starts m s t = inl (1, (may, refl), others 1 (one_of m) None (one_of m) (other_of m) (inr (refl, stays m.one s.events)) (inl refl))
    where
      is_one : (n : ℕ) (g : Flight) → slots (one_of m) None n ≡ Some g → j ≡ g.job
      is_one zero g e = let t : record { job = j; moment = m.one } ≡ g = cc in ap (λ (z : Flight). z.job) t
      is_one (suc zero) g e = absurd cc
      is_one (suc (suc n)) g e = absurd cc

      may : MayStart (one m) (record { job = k; moment = m.other })
      may = record {
        mask = i;
        verdict = compatible.other;
        begins = begins k m.other t;
        spares = λ n g e. subst (λ z. MayStoreOver k (IsGuarded z) → ⊥) (is_one n g e) compatible.other_spares;
        spared = λ n g e. subst (λ z. MayStoreOver z (IsGuarded k) → ⊥) (is_one n g e) compatible.one_spares;
      }

  next : (m n : TwoMoments) → (Steps m.one n.one × Waits m.other n.other) ⊎ (Waits m.one n.one × Steps m.other n.other) → IsNextSituation (both m) (both n)
  next m n (inl w) = inl (0, (refl, w.0), others 0 (one_of m) (other_of m) (one_of n) (other_of n) (inl refl) (inr (refl, w.1)))
  next m n (inr w) = inl (1, (refl, w.1), others 1 (one_of m) (other_of m) (one_of n) (other_of n) (inr (refl, w.0)) (inl refl))

  is_history : (run : List TwoMoments) → AreRunning j k run → (before : List Situation) × IsHistory (map both run ++ before)
  is_history [] r = absurd r
  is_history (m ∷ []) r = (one m ∷ none m ∷ [], ((nothing, one_starts m r.0), other_starts m r.0 r.1))
    where
      nothing : (n : ℕ) → slots None None n ≡ None
      nothing zero = refl
      nothing (suc zero) = refl
      nothing (suc (suc n)) = refl
  is_history (n ∷ m ∷ ms) r = let k = is_history (m ∷ ms) r.0 in (k.0, (k.1, next m n r.1))

  safe : (run : List TwoMoments) (before : List Situation) → AllByRecursion AreFlightsWell (map both run ++ before)
      → AllByRecursion (IsSafeMoment j) (moments_of_one run) × AllByRecursion (IsSafeMoment k) (moments_of_other run)
  safe [] before w = (tt, tt)
  safe (m ∷ ms) before w =
      let r = safe ms before w.1 in
      (((w.0 0 (record { job = j; moment = m.one }) refl).safe, r.0), ((w.0 1 (record { job = k; moment = m.other }) refl).safe, r.1))

pub safe_side_by_side : SafeSideBySide
safe_side_by_side j k h i compatible run r =
    let l = is_history j k h i compatible run r in
    safe j k h i compatible run l.0 (stays_well (map (both j k h i compatible) run ++ l.0) l.1)
