-- Why there is no answer, by its number; over quiet storage, that nothing changed, and that storage
-- holds what was kept.
use Rattle.std.proofs.Common.{◌∙◌, ◌≡◌, List, ap, length, refl, rules, subst, sym, take}
use Rattle.std.proofs.Math.Seq.{take-append_seam}
use Rattle.ccw_core.specs.declared.areas.Area.{Area}
use Rattle.chan_needs.specs.Remembered.{HoldsAreas}
use Rattle.chanv_c.specs.declared.take_in.CNeeded.{CNeeded}
use Rattle.chanv_c.specs.Needs.{AreKeptOf, HasTooManyOpenly, IsFoundKept}
use Rattle.chanv_c.proofs.Quiet.{copy_agrees, nothing_changed}
use Rattle.chanv_c.proofs.Refusals.{needs_number, refusal_number}
use Rattle.chanv_c.proofs.take_in.needs_by_copy.Goals as goal

pub returns-in-Err-clause-number : goal.returns-in-Err-clause-number
returns-in-Err-clause-number c =
    rw (c.code.ensures, c.extent-out.ensures)
    (refusal_number (HasTooManyOpenly c.args.job.now) c.args.job.now c.in-Err.refusal c.in-Err.ensures.refusal)

pub returns-clause-quiet : goal.returns-clause-quiet
returns-clause-quiet c = λ e.
    let kept = subst (IsFoundKept c.args.job.now) c.in-Ok-Kept.field-0-is c.in-Ok-Kept.ensures.answer in
    let found = subst (AreKeptOf c.args.job.now) (sym c.as_slice-copied.ensures.value) kept in
    let long = c.if-not-copy_areas.ensures.length (search rules) in
    nothing_changed c.args.job.now c.as_slice-copied.result.now c.args.copy.now c.copy_areas.new.copy found long
    (c.if-not-copy_areas.ensures.copied (search rules)) (c.needs_over.ensures.changed e)
    (record { storage = refl; same_length = long.1 ∙ long.0; start = refl; device = refl; limit = refl }) c.in-Ok-Kept.ensures.right refl refl

pub returns-clause-agrees : goal.returns-clause-agrees
returns-clause-agrees c = λ e.
    let kept = subst (IsFoundKept c.args.job.now) c.in-Ok-Kept.field-0-is c.in-Ok-Kept.ensures.answer in
    let found = subst (AreKeptOf c.args.job.now) (sym c.as_slice-copied.ensures.value) kept in
    let areas = c.as_slice-copied.result.now in
    let new = c.needs_over.new in
    let (written, keep) = c.needs_over.ensures.yes e in
    let first : take new.out.keep_count new.keep ≡ areas =
    ap (λ (o : CNeeded). take o.keep_count new.keep) written.found.out_is ∙ ap (λ (l : List Area). take (length written.needs.keep) l) written.keep
    ∙ take-append_seam written.needs.keep _ ∙ keep in
    let held = subst (λ (l : List Area). HoldsAreas c.copy_areas.new.copy l new.kept) keep written.held in
    subst (λ (l : List Area). HoldsAreas c.args.job.now.storage.now l new.kept) (sym first)
    (copy_agrees c.args.job.now areas c.args.copy.now c.copy_areas.new.copy found
    (c.if-not-copy_areas.ensures.length (search rules)) (c.if-not-copy_areas.ensures.copied (search rules)) new.kept held)

pub returns-clause-number : goal.returns-clause-number
returns-clause-number c =
    needs_number (HasTooManyOpenly c.args.job.now) c.args.job.now c.needs_over.result c.needs_over.new.out.verdict.extent c.in-Ok-Kept.ensures.right
    (returns-clause-quiet c) c.needs_over.ensures.code
