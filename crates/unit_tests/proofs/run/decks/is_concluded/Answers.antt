use Rattle.std.proofs.Common.{sym, ◌∙◌}
use Rattle.unit_tests.proofs.run.decks.is_concluded.Goals as goal

pub deliver-found-requires-clause-writer : goal.deliver-found-requires-clause-writer
deliver-found-requires-clause-writer c =
    let none = c.if-ends_run.false in
    let sound = c.new-to.ensures.sound in
    let came = c.bare-end.ensures.outcome in (
      λ failed. sound ∙ (sym none ∙ c.ends_run.ensures.1 (sym came ∙ failed)),
      λ failed. came ∙ c.ends_run.ensures.0 (none ∙ (sym sound ∙ failed)),
    )
