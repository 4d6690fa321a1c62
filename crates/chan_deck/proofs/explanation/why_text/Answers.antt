use Rattle.std.proofs.Common.{◌∙◌, ◌≡◌, None, Some, refl, sym}
use Rattle.std.proofs.lemmas.Result.{IfOk-weaker}
use Rattle.chan_why.specs.Findings.{requested_offence}
use Rattle.chan_deck.proofs.explanation.why_text.Goals as goal

pub returns-in-Some : goal.returns-in-Some
returns-in-Some c =
    let f = c.args.findings.now in
    let os = f.survey.offences in
    let asked : requested_offence os f.asked ≡ Some c.in-Some._offence = sym c.requires.requested ∙ c.in-Some.is in
    let shows = rw c.in-Some.is at c.requires.witness in
    IfOk-weaker c.offence_text.result _ _ (λ text is.
    (os, f.witness, c.requires.survey.offences, refl, rw asked shows, rw asked (rw c.verdict.ensures at is))) c.offence_text.ensures

pub returns : goal.returns
returns c =
    let f = c.args.findings.now in
    let os = f.survey.offences in
    let asked : requested_offence os f.asked ≡ None = sym c.requires.requested ∙ c.in_default.is in
    let shows = rw c.in_default.is at c.requires.witness in
    IfOk-weaker c.explanation_text.result _ _ (λ text is.
    (os, f.witness, c.requires.survey.offences, refl, rw asked shows, rw asked is)) c.explanation_text.ensures
