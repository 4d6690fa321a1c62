use Rattle.std.proofs.Common.{ap}
use Rattle.chan_needs.specs.Listed.{listed}
use Rattle.chan_deck.proofs.PartLemmas.{storage_fits}
use Rattle.chan_run.specs.Output.{granting_just}
use Rattle.chan_run.proofs.LeastLemmas.{least_asked}
use Rattle.chan_run.proofs.least_job.least_text.Goals as goal

pub granting_text-requires-clause-needs : goal.granting_text-requires-clause-needs
granting_text-requires-clause-needs c =
    let (j, there) = c.in-Ok.ensures.some in
    (j, c.in-Ok.ensures.ok j there, storage_fits c.args.options.now.at c.args.image.now _ there.storage c.requires.short)

pub returns-clause-text : goal.returns-clause-text
returns-clause-text c =
    let n = listed c.in-Ok.needs in
    let is = ap (λ d. granting_just d n) c.deck_parts.ensures.made in
    (_, least_asked c.args.options.now c.args.image.now n _ c.requires.least c.requires.short c.in-Ok.ensures.ok is, c.in_ok-granting_text.ensures)
