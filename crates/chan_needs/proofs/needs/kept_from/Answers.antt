use Rattle.chan_needs.proofs.Names.{AreExactly, IsGuarded, IsVerdict, open_job, same_under_yes, subst, sym, to_open}
use Rattle.chan_walk.specs.Guard.{GuardAreas, Guards}
use Rattle.chan_walk.specs.declared.verdict.Verdict.{Verdict}
use Rattle.chan_walk.proofs.Algorithms.Listing.{first_is_verdict}
use Rattle.chan_needs.proofs.Needing.{yes_opens}
use Rattle.chan_needs.proofs.needs.kept_from.Goals as goal

pub returns : goal.returns
returns c j k is none one =
    let verdict = subst (λ (v : Verdict). IsVerdict k v) none (first_is_verdict k c.args.survey.now.offences is.offences) in
    let guards = subst (λ (g : GuardAreas). Guards k g) (sym c.guard.ensures) is.guard in
    let found = subst (AreExactly (IsGuarded k)) (sym c.in_ok-into_areas.ensures.areas) (c.in_ok-guarded_areas.ensures k guards) in
    let same = (same_under_yes k (open_job j) (to_open j k one) verdict (yes_opens j k one is.proper verdict)).1 in
    record { merged = found.merged; bytes = λ b. ((λ l. (same b).0 ((found.bytes b).0 l)), λ g. (found.bytes b).1 ((same b).1 g)) }
