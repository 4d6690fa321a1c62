-- What is asked once, compared and granted is enough for a start.
use Rattle.chan_needs.proofs.Names.{[], ap, AreJobsCompatible, Bool, eq-eqb, eqb_tells, false, Flight, from_open, inl, inr, IsGuarded, IsHistory, IsSameIn, IsSome, IsVerdict, List, None, open_job, Option, ProgramActs, ProgramWaits, refl, same_under_yes, Situation, Some, Spares, storage_of, subst, sym, true, Yes, ℕ, ◌==◌, ◌∷◌, ◌≡◌, ◌≢◌, ◌⊎◌}
use Rattle.chan_needs.specs.Asked.{AskedMayStart, EachMayLeave, EachMayStart, EachMayStep, OthersMayChange}
use Rattle.chan_needs.proofs.Compatible.{compatible_by_jobs}
use Rattle.chan_needs.proofs.Needing.{least_job}

pub asked_may_start : AskedMayStart
asked_may_start a j f h = record {
  mask = h.proper.2;
  verdict = yes;
  begins = record { storage = same; arm = h.arm; mask = h.mask; stage = h.stage; events = h.events };
  spares = λ i g e. (compatible i g e).one_spares;
  spared = λ i g e. (compatible i g e).other_spares;
}
  where
    yes : IsVerdict f.job Yes
    yes = (least_job j f.job h.program h.proper).1 (h.opened, h.grants)

    same : IsSameIn (IsGuarded f.job) (storage_of f.job) f.moment.storage
    same = subst (λ (s : List ℕ). IsSameIn (IsGuarded f.job) s f.moment.storage) h.program.storage (record {
      same_length = h.kept.same_length;
      same = λ b g. h.kept.same b (((same_under_yes (open_job j) f.job (from_open j f.job h.program) h.opened yes).1 b).1 g);
    })

    compatible : (i : ℕ) (g : Flight) → a.at i ≡ Some g → AreJobsCompatible f.job g.job
    compatible i g e = let w = h.compatible i g e in (compatible_by_jobs j w.0 f.job g.job h.program w.1.program h.proper w.1.proper yes w.1.verdict).0 w.2

-- ---- what comes next in a history

abbrev pub moved : List ℕ → Flight → Flight
moved t f = record f { moment = record (f.moment) { storage = t; events = [] } }

abbrev pub all_moved : List ℕ → Option Flight → Option Flight
all_moved t None = None
all_moved t (Some f) = Some (moved t f)

pub moved_shared : (t : List ℕ) (x : Option Flight) (f : Flight) → all_moved t x ≡ Some f → f.moment.storage ≡ t
moved_shared t None f e = absurd cc
moved_shared t (Some g) f e = let s : moved t g ≡ f = cc in ap (λ (z : Flight). z.moment.storage) (sym s)

pub moved_rests : (t : List ℕ) (x : Option Flight) → ProgramWaits x (all_moved t x)
moved_rests t None = tt
moved_rests t (Some f) = (refl, record { arm = refl; mask = refl; stage = refl; events = refl })

spares : (s t : List ℕ) (x : Option Flight) → ((f : Flight) → x ≡ Some f → IsSameIn (IsGuarded f.job) s t) → Spares x s t
spares s t None h = tt
spares s t (Some f) h = h f refl

-- all wait while storage becomes t
abbrev pub rewritten : Situation → List ℕ → Situation
rewritten a t = record { storage = t; at = λ i. all_moved t (a.at i); shared = λ i f e. moved_shared t (a.at i) f e }

pub others_may_change : OthersMayChange
others_may_change a before t h free = (rewritten a t, refl, (h, inr (λ k. (moved_rests t (a.at k), spares a.storage t (a.at k) (free k)))))

-- what is at one number is another
abbrev pub picked : {X : Type 0} → Bool → X → X → X
picked true x y = x
picked false x y = y

-- one program acts, and each other waits
module _ (a : Situation) (i : ℕ) (x : Option Flight) (t : List ℕ) (shares : (f : Flight) → x ≡ Some f → f.moment.storage ≡ t) where
  abbrev pub at : ℕ → Option Flight
  at k = picked (k == i) x (all_moved t (a.at k))

  pub picked_shares : (z : Bool) (y : Option Flight) (f : Flight) → picked z x (all_moved t y) ≡ Some f → f.moment.storage ≡ t
  picked_shares true y f e = shares f e
  picked_shares false y f e = moved_shared t y f e

  abbrev pub after : Situation
  after = record { storage = t; at = at; shared = λ k f e. picked_shares (k == i) (a.at k) f e }

  pub here : after.at i ≡ x
  here = ap (λ z. picked z x (all_moved t (a.at i))) (eq-eqb i i refl)

  pub others : (k : ℕ) → (k ≡ i) ⊎ ProgramWaits (a.at k) (after.at k)
  others k = go (eqb_tells k i)
    where
      go : (((k == i) ≡ true) × (k ≡ i)) ⊎ (((k == i) ≡ false) × (k ≢ i)) → (k ≡ i) ⊎ ProgramWaits (a.at k) (after.at k)
      go (inl e) = inl e.1
      go (inr e) = inr (subst (λ z. ProgramWaits (a.at k) (picked z x (all_moved t (a.at k)))) (sym e.0) (moved_rests t (a.at k)))

  acts_next : (before : List Situation) → IsHistory (a ∷ before) → ProgramActs a after (a.at i) x
      → (b : Situation) × (b.storage ≡ t) × (b.at i ≡ x) × IsHistory (b ∷ a ∷ before)
  acts_next before h acts = (after, refl, here, (h, inl (i, subst (λ y. ProgramActs a after (a.at i) y) (sym here) acts, others)))

-- the one program is this
module _ (f : Flight) (t : List ℕ) (e : f.moment.storage ≡ t) where
  pub shares_of : (g : Flight) → Some f ≡ Some g → g.moment.storage ≡ t
  shares_of g w = let s : f ≡ g = cc in subst (λ (z : Flight). z.moment.storage ≡ t) s e

pub each_may_start : EachMayStart
each_may_start a before i f h free e may =
    let shares = shares_of f a.storage e in
    acts_next a i (Some f) a.storage shares before h (subst (λ y. ProgramActs a (after a i (Some f) a.storage shares) y (Some f)) (sym free) (may, refl))

pub each_may_step : EachMayStep
each_may_step a before i f n h there step =
    let g : Flight = record f { moment = n } in
    let shares = shares_of g n.storage refl in
    acts_next a i (Some g) n.storage shares before h (subst (λ y. ProgramActs a (after a i (Some g) n.storage shares) y (Some g)) (sym there) (refl, step))

pub each_may_leave : EachMayLeave
each_may_leave a before i h some = acts_next a i None a.storage (λ f e. absurd cc) before h (go (a.at i) some)
  where
    b : Situation
    b = after a i None a.storage (λ f e. absurd cc)

    go : (y : Option Flight) → IsSome y → ProgramActs a b y None
    go None s = absurd cc
    go (Some f) s = refl
