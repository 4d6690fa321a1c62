-- Programs that start and leave at any time: each in flight is at the newest moment of a run among others, and all are apart.
use Rattle.chan_needs.proofs.Names.{[], AllByRecursion, ap, AreFlightsWell, BeginsSinceAsked, Flight, HasMask, inl, inr, IsGuarded, IsHistory, IsNextSituation, IsSameIn, IsStart, IsVerdict, Job, List, MayStart, MayStoreOver, Moment, None, Option, ProgramActs, ProgramWaits, refl, Situation, Some, Spares, Steps, storage_of, subst, sym, Waits, Yes, ℕ, ◌∙◌, ◌∷◌, ◌≡◌, ◌⊎◌}
use Rattle.chan_walk.specs.Headline.{IsSpared}
use Rattle.chan_needs.specs.History.{IsFlightWell, StaysWell}
use Rattle.chan_walk.proofs.Theory.Lists.{all_map}
use Rattle.chan_walk.proofs.Machine.Yes.{no_change, each_ok, step_spares, yes_is_safe_among}

-- a step of one program leaves what another sees as it was, where P holds
pub seen : (j : Job) → IsVerdict j Yes → (P : ℕ → Type 0) → (MayStoreOver j P → ⊥) → (m n : Moment) (ms : List Moment)
    → IsSpared j (m ∷ ms) → Steps m n → (s t : List ℕ) → s ≡ m.storage → t ≡ n.storage → IsSameIn P s t
seen j v P never m n ms r w s t e f =
    let k = step_spares j v P never m.storage m.arm m.mask m.stage n.events n.storage n.arm n.mask n.stage w (each_ok j v (m ∷ ms) r).0.kept in
    record { same_length = rw e (rw f k.same_length); same = λ b h. rw e (rw f (k.same b h)) }

-- what is known of a program in flight
pub record Kept (j : Job) (m : Moment) : Type 0 where
  pub mask : HasMask j
  pub verdict : IsVerdict j Yes
  pub before : List Moment
  pub spared : IsSpared j (m ∷ before)

-- of all of them
pub record Sound (a : Situation) : Type 0 where
  pub kept : (i : ℕ) (f : Flight) → a.at i ≡ Some f → Kept f.job f.moment
  compatible : (i k : ℕ) (f g : Flight) → a.at i ≡ Some f → a.at k ≡ Some g → MayStoreOver f.job (IsGuarded g.job) → ⊥

-- a program that begins has waited since it was asked about
begun : (j : Job) (m : Moment) → BeginsSinceAsked j m → (before : List Moment) × IsSpared j (m ∷ before)
begun j m b = (asked ∷ [], (is_start, inr (waited, b.storage)))
  where
    asked : Moment
    asked = record { storage = storage_of j; arm = m.arm; mask = m.mask; stage = m.stage; events = [] }

    is_start : IsStart j asked
    is_start = record { storage = refl; arm = b.arm; mask = b.mask; stage = b.stage; events = refl }

    waited : Waits asked m
    waited = record { arm = refl; mask = refl; stage = refl; events = b.events }

-- what a moment of a run may be followed by
abbrev MomentGoesOn : Job → Moment → Moment → Type 0
MomentGoesOn j m n = Steps m n ⊎ (Waits m n × IsSameIn (IsGuarded j) m.storage n.storage)

-- g was in flight before, as f
record Was (a : Situation) (i : ℕ) (g : Flight) : Type 0 where
  f : Flight
  there : a.at i ≡ Some f
  same : g.job ≡ f.job
  goes : MomentGoesOn f.job f.moment g.moment

-- each in flight is the one that starts, or was in flight before
record OneMayStart (a b : Situation) : Type 0 where
  new : Option Flight
  may : (f : Flight) → new ≡ Some f → MayStart a f
  each : (i : ℕ) (g : Flight) → b.at i ≡ Some g → (new ≡ Some g) ⊎ Was a i g

goes_kept : (j k : Job) (m n : Moment) → k ≡ j → MomentGoesOn j m n → Kept j m → Kept k n
goes_kept j k m n e w h = subst (λ z. Kept z n) (sym e) (record { mask = h.mask; verdict = h.verdict; before = m ∷ h.before; spared = (h.spared, w) })

next_sound : (a b : Situation) → OneMayStart a b → Sound a → Sound b
next_sound a b next sound = record {
  kept = λ i g e. kept i g (next.each i g e);
  compatible = λ i k f g d e. compatible i k f g (next.each i f d) (next.each k g e);
}
  where
    kept : (i : ℕ) (g : Flight) → (next.new ≡ Some g) ⊎ Was a i g → Kept g.job g.moment
    kept i g (inl e) =
        let may = next.may g e in
        let r = begun g.job g.moment may.begins in
        record { mask = may.mask; verdict = may.verdict; before = r.0; spared = r.1 }
    kept i g (inr w) = goes_kept w.f.job g.job w.f.moment g.moment w.same w.goes (sound.kept i w.f w.there)

    compatible : (i k : ℕ) (f g : Flight) → (next.new ≡ Some f) ⊎ Was a i f → (next.new ≡ Some g) ⊎ Was a k g → MayStoreOver f.job (IsGuarded g.job) → ⊥
    compatible i k f g (inl d) (inl e) =
        let s : Some f ≡ Some g = sym d ∙ e in
        let t : f ≡ g = cc in
        subst (λ (z : Flight). MayStoreOver f.job (IsGuarded z.job) → ⊥) t (no_change f.job (next.may f d).verdict)
    compatible i k f g (inl d) (inr w) = subst (λ z. MayStoreOver f.job (IsGuarded z) → ⊥) (sym w.same) ((next.may f d).spares k w.f w.there)
    compatible i k f g (inr v) (inl e) = subst (λ z. MayStoreOver z (IsGuarded g.job) → ⊥) (sym v.same) ((next.may g e).spared i v.f v.there)
    compatible i k f g (inr v) (inr w) =
        subst (λ z. MayStoreOver z (IsGuarded g.job) → ⊥) (sym v.same)
        (subst (λ z. MayStoreOver v.f.job (IsGuarded z) → ⊥) (sym w.same) (sound.compatible i k v.f w.f v.there w.there))

module _ (a b : Situation) (sound : Sound a) where
  -- one that waits while storage stays, or changes in no byte that it guards
  waited : (i : ℕ) (g : Flight) (x : Option Flight) → a.at i ≡ x → b.at i ≡ Some g → ProgramWaits x (Some g)
      → ((f : Flight) → a.at i ≡ Some f → IsSameIn (IsGuarded f.job) a.storage b.storage) → Was a i g
  waited i g None d e r h = absurd r
  waited i g (Some f) d e r h =
      let s = h f d in
      record {
        f = f;
        there = d;
        same = r.0;
        goes = inr (
          r.1,
          record {
            same_length = rw (a.shared i f d) (rw (b.shared i g e) s.same_length);
            same = λ z u. rw (a.shared i f d) (rw (b.shared i g e) (s.same z u));
          },
        );
      }

  pub stays : b.storage ≡ a.storage → (P : ℕ → Type 0) → IsSameIn P a.storage b.storage
  stays e P = subst (IsSameIn P a.storage) (sym e) (record { same_length = refl; same = λ z u. refl })

  -- what one does leaves the bytes as they were that it never stores over
  pub acts_apart : (i : ℕ) (x y : Option Flight) → a.at i ≡ x → b.at i ≡ y → ProgramActs a b x y → (P : ℕ → Type 0)
      → ((f : Flight) → x ≡ Some f → MayStoreOver f.job P → ⊥) → IsSameIn P a.storage b.storage
  acts_apart i None None d e w P never = absurd w
  acts_apart i None (Some g) d e w P never = stays w.1 P
  acts_apart i (Some f) None d e w P never = stays w P
  acts_apart i (Some f) (Some g) d e w P never =
      let kept = sound.kept i f d in
      seen f.job kept.verdict P (never f refl) f.moment g.moment kept.before kept.spared w.1 a.storage b.storage (sym (a.shared i f d)) (sym (b.shared i g e))

  -- one acts, at i
  acts : (i : ℕ) (x y : Option Flight) → a.at i ≡ x → b.at i ≡ y → ProgramActs a b x y → ((k : ℕ) → (k ≡ i) ⊎ ProgramWaits (a.at k) (b.at k)) → OneMayStart a b
  acts i None None d e w r = absurd w
  acts i None (Some f) d e w r = record { new = Some f; may = λ g z. let t : f ≡ g = cc in subst (MayStart a) t w.0; each = λ k g z. each k g z (r k) }
    where
      each : (k : ℕ) (g : Flight) → b.at k ≡ Some g → (k ≡ i) ⊎ ProgramWaits (a.at k) (b.at k) → (Some f ≡ Some g) ⊎ Was a k g
      each k g z (inl h) = inl (sym e ∙ sym (ap b.at h) ∙ z)
      each k g z (inr h) = inr (waited k g (a.at k) refl z (subst (ProgramWaits (a.at k)) z h) (λ f _. stays w.1 (IsGuarded f.job)))
  acts i (Some f) None d e w r = record { new = None; may = λ g z. absurd cc; each = λ k g z. inr (each k g z (r k)) }
    where
      each : (k : ℕ) (g : Flight) → b.at k ≡ Some g → (k ≡ i) ⊎ ProgramWaits (a.at k) (b.at k) → Was a k g
      each k g z (inl h) = let s : None ≡ Some g = sym e ∙ sym (ap b.at h) ∙ z in absurd cc
      each k g z (inr h) = waited k g (a.at k) refl z (subst (ProgramWaits (a.at k)) z h) (λ f _. stays w (IsGuarded f.job))
  acts i (Some f) (Some g) d e w r = record { new = None; may = λ h z. absurd cc; each = λ k h z. inr (each k h z (r k)) }
    where
      spared : (k : ℕ) (h : Flight) → a.at k ≡ Some h → IsSameIn (IsGuarded h.job) a.storage b.storage
      spared k h z = acts_apart i (Some f) (Some g) d e w (IsGuarded h.job) (λ q same. sound.compatible i k q h (d ∙ same) z)

      each : (k : ℕ) (h : Flight) → b.at k ≡ Some h → (k ≡ i) ⊎ ProgramWaits (a.at k) (b.at k) → Was a k h
      each k h z (inl q) =
          let s : Some g ≡ Some h = sym e ∙ sym (ap b.at q) ∙ z in
          let t : g ≡ h = cc in
          subst (Was a k) t (record { f = f; there = ap a.at q ∙ d; same = w.0; goes = inl w.1 })
      each k h z (inr q) = waited k h (a.at k) refl z (subst (ProgramWaits (a.at k)) z q) (spared k)

  next : IsNextSituation a b → OneMayStart a b
  next (inl w) = acts w.0 (a.at w.0) (b.at w.0) refl refl w.1 w.2
  next (inr w) = record { new = None; may = λ f z. absurd cc; each = λ k g z. inr (waits k g z (subst (ProgramWaits (a.at k)) z (w k).0) (w k).1) }
    where
      -- each waits, while storage changes in no byte that it guards
      waits : (k : ℕ) (g : Flight) → b.at k ≡ Some g → ProgramWaits (a.at k) (Some g) → Spares (a.at k) a.storage b.storage → Was a k g
      waits k g z r h = waited k g (a.at k) refl z r (λ f d. subst (λ x. Spares x a.storage b.storage) d h)

pub all_sound : (history : List Situation) → IsHistory history → AllByRecursion Sound history
all_sound [] h = absurd h
all_sound (a ∷ []) h = (record { kept = λ i f e. absurd (none i f e); compatible = λ i k f g d e u. none i f d }, tt)
  where
    none : (i : ℕ) (f : Flight) → a.at i ≡ Some f → ⊥
    none i f e = let s : None ≡ Some f = sym (h i) ∙ e in absurd cc
all_sound (b ∷ a ∷ before) h =
    let k = all_sound (a ∷ before) h.0 in
    (next_sound a b (next a b k.0 h.1) k.0, k)

pub stays_well : StaysWell
stays_well history h = all_map Sound AreFlightsWell (λ a s i f e. well f (s.kept i f e)) history (all_sound history h)
  where
    well : (f : Flight) → Kept f.job f.moment → IsFlightWell f
    well f k =
        let ms = f.moment ∷ k.before in
        let o = (each_ok f.job k.verdict ms k.spared).0.kept in
        record {
          run = (k.before, k.spared);
          safe = ((yes_is_safe_among f.job k.mask k.verdict).0 ms k.spared).0;
          same = record { same_length = o.same_length; same = o.same };
        }
