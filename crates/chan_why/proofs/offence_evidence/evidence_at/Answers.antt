use Rattle.chan_why.proofs.Names.{ap, Area, AreClear, ccw_of, ccw_seen, ChangesGuarded, clear_stands, data_at, data_of, Evidence, Fields, GuardAreas, Guards, IsArgumentIn, IsEvidenceAt, IsCcwIn, IsLook, IsOwnFault, IsSome, Job, None, Offends, Option, own_clear, Place, Reason, refl, Seen, Some, subst, sym, ℕ, ◌∙◌, ◌≡◌}
use Rattle.std.proofs.lemmas.Option.{same_Some}
use Rattle.chan_walk.specs.Evidence.{reason_of}
use Rattle.chan_walk.proofs.Algorithms.Looking.{none_shown, own_faulty}
use Rattle.chan_why.proofs.Causes.{changes_argument, changes_ccw, offends_by_change, offends_by_own, over_argument, over_ccw, own_is_evidence}
use Rattle.chan_why.proofs.offence_evidence.evidence_at.Goals as goal

-- a place that offends without an own fault: its CCW is seen, and it changes what is guarded
changer : (j : Job) (l : Seen) (r : Reason) → IsLook j l → Offends j l.place r → (f : Option Evidence) → f ≡ l.fault
    → f ≡ None → (o : Option Fields) → o ≡ l.ccw → (o ≡ Some (ccw_of j l.place)) × AreClear j × ChangesGuarded j l.place r
changer j l r look off f is none o same =
    let clear = own_clear j l.place (subst (IsOwnFault j l.place) (sym is ∙ none) look.fault) in
    let change = offends_by_change j l.place r clear off in
    (same ∙ ccw_seen j l look (clear_stands j l.place clear), change.0, change.1)

ranged : (j : Job) (p : Place) (o : Option Fields) → o ≡ Some (ccw_of j p) → (c : Fields) → o ≡ Some c → (a : Area) → a ≡ data_of c → a ≡ data_at j p
ranged j p o seen c is a e = e ∙ ap data_of (same_Some c (ccw_of j p) (sym is ∙ seen))

pub returns-in-Some : goal.returns-in-Some
returns-in-Some c j s look offends =
    let p = c.args.look.now.place in
    let e = c.in-Some.evidence in
    let own = own_faulty j p e (subst (IsOwnFault j p) (sym c.fault.ensures ∙ c.in-Some.is) look.fault) in
    (offends_by_own j p (reason_of e) c.args.reason offends.0 own.0 offends.1, own_is_evidence j p e own.1)

pub unwrap-requires : goal.unwrap-requires
unwrap-requires c =
    let a = c.requires.offends in
    let h = changer a.0 c.args.look.now c.args.reason a.2 a.3.1 c.fault.result c.fault.ensures
    (none_shown c.fault.result c.in_default.not-Some) c.ccw.result c.ccw.ensures in
    subst (λ (o : Option Fields). IsSome o) (sym h.0) refl

pub changed_ccw-requires : goal.changed_ccw-requires
changed_ccw-requires c =
    let a = c.requires.offends in
    let p = c.args.look.now.place in
    let h = changer a.0 c.args.look.now c.args.reason a.2 a.3.1 c.fault.result c.fault.ensures
    (none_shown c.fault.result c.in_default.not-Some) c.ccw.result c.ccw.ensures in
    let range = ranged a.0 p c.ccw.result h.0 c.unwrap.result c.unwrap.ensures c.data_of-data.result c.data_of-data.ensures.range in
    let over = over_ccw a.0 p (changes_ccw a.0 p c.args.reason c.in-ChangesCcw.is h.2) in
    (a.0, subst (λ (g : GuardAreas). Guards a.0 g) (sym c.guard.ensures) a.1.guard, subst (λ (d : Area). (x : ℕ) × IsCcwIn a.0 d x) (sym range) over)

pub changed_argument-requires-clause-change : goal.changed_argument-requires-clause-change
changed_argument-requires-clause-change c =
    let a = c.requires.offends in
    let p = c.args.look.now.place in
    let h = changer a.0 c.args.look.now c.args.reason a.2 a.3.1 c.fault.result c.fault.ensures
    (none_shown c.fault.result c.in_default.not-Some) c.ccw.result c.ccw.ensures in
    let range = ranged a.0 p c.ccw.result h.0 c.unwrap.result c.unwrap.ensures c.data_of-data.result c.data_of-data.ensures.range in
    let over = over_argument a.0 p (changes_argument a.0 p c.args.reason c.in_default-reason.not-ChangesCcw h.2).1 in
    (a.0, a.1, h.1, subst (λ (d : Area). (x : ℕ) × IsArgumentIn a.0 d x) (sym range) over)

pub returns-in-ChangesCcw : goal.returns-in-ChangesCcw
returns-in-ChangesCcw c j s look offends =
    let p = c.args.look.now.place in
    let h = changer j c.args.look.now c.args.reason look offends.1 c.fault.result c.fault.ensures
    (none_shown c.fault.result c.in_default.not-Some) c.ccw.result c.ccw.ensures in
    let range = ranged j p c.ccw.result h.0 c.unwrap.result c.unwrap.ensures c.data_of-data.result c.data_of-data.ensures.range in
    let found = c.changed_ccw.ensures j (subst (λ (g : GuardAreas). Guards j g) (sym c.guard.ensures) s.guard) in
    subst (λ (e : Evidence). (reason_of e ≡ c.args.reason) × IsEvidenceAt j p e) (sym found.1) (sym c.in-ChangesCcw.is, (range, found.2))

pub returns-in_default-reason : goal.returns-in_default-reason
returns-in_default-reason c j s look offends =
    let p = c.args.look.now.place in
    let h = changer j c.args.look.now c.args.reason look offends.1 c.fault.result c.fault.ensures
    (none_shown c.fault.result c.in_default.not-Some) c.ccw.result c.ccw.ensures in
    let range = ranged j p c.ccw.result h.0 c.unwrap.result c.unwrap.ensures c.data_of-data.result c.data_of-data.ensures.range in
    let over = changes_argument j p c.args.reason c.in_default-reason.not-ChangesCcw h.2 in
    let found = c.changed_argument.ensures j s h.1 in
    subst (λ (e : Evidence). (reason_of e ≡ c.args.reason) × IsEvidenceAt j p e) (sym found.3) (sym over.0, (range, found.4, found.5))
