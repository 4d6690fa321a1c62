-- A supervisor that keeps to the answers of its calls makes a history.
use Rattle.chan_needs.proofs.Names.{[], ap, AreInFlight, Flight, inl, inr, IsAllowed, IsHistory, IsInFlight, IsNextSituation, IsSome, IsSupervised, List, map, MayStart, None, Option, ProgramActs, ProgramGoesOnAt, ProgramStartsAt, ProgramWaits, ProgramWaitsAt, refl, Remembered, Situation, Some, Spares, subst, Supervision, SupervisionGoesOn, sym, ℕ, ◌∙◌, ◌∷◌, ◌≡◌, ◌⊎◌}
use Rattle.chan_needs.specs.Supervised.{IsWriting, ListsRemembered, SupervisedStaysWell}
use Rattle.chan_needs.proofs.History.{stays_well}
use Rattle.chan_needs.proofs.Remembering.{spared_by, starts_well}
use Rattle.chan_needs.proofs.Beginning.{others}

abbrev pub situations : List Supervision → List Situation
situations run = map (λ (v : Supervision). v.situation) run

-- what is remembered under number i is true of a program
abbrev pub IsNoted : Supervision → ℕ → Flight → Type 0
IsNoted v i g = (p : Remembered) × (v.programs i ≡ Some p) × IsInFlight p g.job

-- what is remembered is true of the programs in flight
abbrev pub IsTrueAt : Supervision → Type 0
IsTrueAt v = (i : ℕ) (g : Flight) → v.situation.at i ≡ Some g → IsNoted v i g

listed_in_flight : (v : Supervision) (fs : List Remembered) → IsTrueAt v → ListsRemembered v.programs fs → AreInFlight v.situation fs
listed_in_flight v fs h lists i g e = let t = h i g e in let n = lists i t.0 t.1 in (n.0, t.0, n.1, t.2)

-- ---- one moment on

module _ (v w : Supervision) (h : IsTrueAt v) where
  -- one that waits or makes a step stays as it was remembered
  stayed : (i : ℕ) (f g : Flight) → v.situation.at i ≡ Some f → g.job ≡ f.job → w.programs i ≡ v.programs i → IsNoted w i g
  stayed i f g e same noted = let t = h i f e in (t.0, noted ∙ t.1, subst (IsInFlight t.0) (sym same) t.2)

  rested : (k : ℕ) (g : Flight) (x : Option Flight) → v.situation.at k ≡ x → ProgramWaits x (Some g) → w.programs k ≡ v.programs k → IsNoted w k g
  rested k g None e r noted = absurd r
  rested k g (Some f) e r noted = stayed k f g e r.0 noted

  rested_at : (k : ℕ) (g : Flight) → w.situation.at k ≡ Some g → ProgramWaitsAt v w k → IsNoted w k g
  rested_at k g e r = rested k g (v.situation.at k) refl (subst (ProgramWaits (v.situation.at k)) e r.0) r.1

  -- a start
  module _ (i : ℕ) (s : ProgramStartsAt v w i) where
    abbrev now : IsAllowed v i
    now = s.allowed

    started : MayStart v.situation now.flight × IsInFlight now.program now.flight.job
    started =
        starts_well now.flight.job now.program now.in_flight now.proper now.answer now.asked v.situation
        now.flight.moment now.remembered (listed_in_flight v now.in_flight h now.lists) now.start

    starts : ProgramActs v.situation w.situation (v.situation.at i) (w.situation.at i)
    starts =
        subst (λ x. ProgramActs v.situation w.situation x (w.situation.at i)) (sym now.free)
        (subst (λ x. ProgramActs v.situation w.situation None x) (sym s.there) (started.0, s.storage))

    starts_true : (g : Flight) → w.situation.at i ≡ Some g → IsNoted w i g
    starts_true g e =
        let q : Some now.flight ≡ Some g = sym s.there ∙ e in
        let t : now.flight ≡ g = cc in
        (now.program, s.noted, subst (λ (f : Flight). IsInFlight now.program f.job) t started.1)

  -- a step, or the end
  acted : (i : ℕ) (g : Flight) (x : Option Flight) → v.situation.at i ≡ x → IsSome x
      → ProgramActs v.situation w.situation x (Some g) → w.programs i ≡ v.programs i → IsNoted w i g
  acted i g None e some acts noted = absurd cc
  acted i g (Some f) e some acts noted = stayed i f g e acts.0 noted

  goes_true : (i : ℕ) (s : ProgramGoesOnAt v w i) (g : Flight) → w.situation.at i ≡ Some g → IsNoted w i g
  goes_true i s g e =
      acted i g (v.situation.at i) refl s.there (subst (ProgramActs v.situation w.situation (v.situation.at i)) e s.acts) (s.noted (subst IsSome (sym e) refl))

  -- a write
  spares : (r : IsWriting v w) (k : ℕ) (x : Option Flight) → v.situation.at k ≡ x → Spares x v.situation.storage w.situation.storage
  spares r k None e = tt
  spares r k (Some f) e =
      spared_by r.0.in_flight r.0.area r.0.answer v.situation w.situation.storage (listed_in_flight v r.0.in_flight h r.0.lists) r.0.written k f e

  -- the program under number i starts, makes a step or leaves
  module _ (i : ℕ) where
    acts : ProgramStartsAt v w i ⊎ ProgramGoesOnAt v w i → ProgramActs v.situation w.situation (v.situation.at i) (w.situation.at i)
    acts (inl s) = starts i s
    acts (inr s) = s.acts

    rests : (k : ℕ) → (k ≡ i) ⊎ ProgramWaitsAt v w k → (k ≡ i) ⊎ ProgramWaits (v.situation.at k) (w.situation.at k)
    rests k (inl e) = inl e
    rests k (inr r) = inr r.0

    noted_at : (g : Flight) → ProgramStartsAt v w i ⊎ ProgramGoesOnAt v w i → w.situation.at i ≡ Some g → IsNoted w i g
    noted_at g (inl s) e = starts_true i s g e
    noted_at g (inr s) e = goes_true i s g e

    each_noted : (k : ℕ) (g : Flight) → ProgramStartsAt v w i ⊎ ProgramGoesOnAt v w i → w.situation.at k ≡ Some g → (k ≡ i) ⊎ ProgramWaitsAt v w k
        → IsNoted w k g
    each_noted k g s e (inl same) = subst (λ n. IsNoted w n g) (sym same) (noted_at g s (sym (ap w.situation.at same) ∙ e))
    each_noted k g s e (inr r) = rested_at k g e r

  comes_next : SupervisionGoesOn v w → IsNextSituation v.situation w.situation
  comes_next (inl (i, s, others)) = inl (i, acts i s, λ k. rests i k (others k))
  comes_next (inr r) = inr (λ k. ((r.1 k).0, spares r k (v.situation.at k) refl))

  stays_true : SupervisionGoesOn v w → IsTrueAt w
  stays_true (inl (i, s, others)) k g e = each_noted i k g s e (others k)
  stays_true (inr r) k g e = rested_at k g e (r.1 k)

-- ---- always

pub supervised : (v : Supervision) (before : List Supervision) → IsSupervised (v ∷ before) → IsHistory (v.situation ∷ situations before) × IsTrueAt v
supervised v [] none = (none, λ i g e. let s : None ≡ Some g = sym (none i) ∙ e in absurd cc)
supervised w (v ∷ before) (run, goes) = let t = supervised v before run in ((t.0, comes_next v w t.1 goes), stays_true v w t.1 goes)

pub flying : (v : Supervision) (before : List Supervision) (fs : List Remembered) → IsSupervised (v ∷ before)
    → ListsRemembered v.programs fs → AreInFlight v.situation fs
flying v before fs h lists = listed_in_flight v fs (supervised v before h).1 lists

pub supervised_stays_well : SupervisedStaysWell
supervised_stays_well [] h = absurd h
supervised_stays_well (v ∷ before) h = stays_well (v.situation ∷ situations before) (supervised v before h).0
