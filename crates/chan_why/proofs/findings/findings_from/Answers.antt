use Rattle.std.proofs.Common.{sym, ◌∙◌}
use Rattle.chan_why.proofs.Names.{Has, List, Offence, subst}
use Rattle.chan_why.proofs.Explaining.{first_listed}
use Rattle.chan_why.proofs.findings.findings_from.Goals as goal

pub shown_witness-requires-clause-first : goal.shown_witness-requires-clause-first
shown_witness-requires-clause-first c =
    subst (λ (os : List Offence). Has os c.in-Some.first) c.offences.ensures
    (first_listed c.offences.result.now c.in-Some.first (sym c.in-Some.is ∙ c.copied.ensures ∙ c.first.ensures.value))
