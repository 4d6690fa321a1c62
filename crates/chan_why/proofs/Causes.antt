-- What it says of a place that was looked at that it offends by a reason.
use Rattle.chan_why.proofs.Names.{AreClear, arith, ChangesGuarded, data_at, Evidence, inl, inr, IsArgumentByte, IsArgumentIn, IsEvidenceAt, IsCcwByte, IsCcwIn, IsClear, IsReachable, Job, Offends, Option, Place, Reason, refl, Some, sym, ℕ, ◌∙◌, ◌≡◌}
use Rattle.chan_walk.specs.declared.evidence.Evidence.TheVariants as because
use Rattle.chan_walk.specs.declared.reason.Reason.TheVariants.{ChangesArgument, ChangesCcw}
use Rattle.chan_walk.specs.Evidence.{IsOwnEvidence}
use Rattle.chan_walk.specs.Fault.{HasFault}
use Rattle.chan_walk.specs.Verdict.{StoresOver}
use Rattle.chan_walk.proofs.Algorithms.Looking.{never_both}
use Rattle.chan_walk.proofs.Theory.Faults.{fault_unique}

-- a place with an own fault offends by it alone
pub offends_by_own : (j : Job) (p : Place) (r t : Reason) → IsReachable j p → HasFault j p (Some r) → Offends j p t → r ≡ t
offends_by_own j p r t reached f (inl g) = let same : ◌≡◌ {A = Option Reason} (Some r) (Some t) = fault_unique j p (Some r) (Some t) f g in cc
offends_by_own j p r t reached f (inr h) = absurd (never_both j p r (h.0 p reached) f)

-- and one without by a change
pub offends_by_change : (j : Job) (p : Place) (t : Reason) → IsClear j p → Offends j p t → AreClear j × ChangesGuarded j p t
offends_by_change j p t clear (inl g) = absurd (never_both j p t clear g)
offends_by_change j p t clear (inr h) = h

pub changes_ccw : (j : Job) (p : Place) (t : Reason) → t ≡ ChangesCcw → ChangesGuarded j p t → StoresOver j p (IsCcwByte j)
changes_ccw j p t e (inl h) = h.1
changes_ccw j p t e (inr h) = let d : ◌≡◌ {A = Reason} ChangesCcw ChangesArgument = sym e ∙ h.0 in absurd (cc)

pub changes_argument : (j : Job) (p : Place) (t : Reason) → (t ≡ ChangesCcw → ⊥) → ChangesGuarded j p t → (t ≡ ChangesArgument)
    × StoresOver j p (IsArgumentByte j)
changes_argument j p t n (inl h) = absurd (n h.0)
changes_argument j p t n (inr h) = h

-- the evidence for an own fault is evidence at its place
pub own_is_evidence : (j : Job) (p : Place) (e : Evidence) → IsOwnEvidence j p e → IsEvidenceAt j p e
own_is_evidence j p (because.ChangesCcw range ccw) h = absurd h
own_is_evidence j p (because.ChangesArgument range b taker argument) h = absurd h
own_is_evidence j p e h = h

-- ---- what is stored over

pub over_ccw : (j : Job) (p : Place) → StoresOver j p (IsCcwByte j) → (a : ℕ) × IsCcwIn j (data_at j p) a
over_ccw j p o =
    let h = o.holds in (
      h.place.address,
      record {
        place = h.place;
        reached = h.reached;
        address = refl;
        stands = h.stands;
        filled = omega (arith, o.from, o.below);
        from = omega (arith, o.from, h.below);
        below = omega (arith, o.below, h.from);
      },
    )

pub over_argument : (j : Job) (p : Place) → StoresOver j p (IsArgumentByte j) → (b : ℕ) × IsArgumentIn j (data_at j p) b
over_argument j p o = (o.at, record { from = o.from; below = o.below; argument = o.holds })
