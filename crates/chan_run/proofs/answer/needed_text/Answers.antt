use Rattle.std.proofs.Common.{refl}
use Rattle.std.proofs.lemmas.Result.{IfOk-weaker}
use Rattle.chan_needs.specs.Listed.{listed}
use Rattle.chan_run.proofs.NeedLemmas.{needs_extents}
use Rattle.chan_run.proofs.answer.needed_text.Goals as goal

pub needs_text-requires : goal.needs_text-requires
needs_text-requires c =
    needs_extents c.args.job.now (listed c.in_ok-needs.needs)
    (c.in_ok-needs.ensures c.args.job.now (record { storage = refl; start = refl; device = refl }))

pub returns : goal.returns
returns c =
    let needs = c.in_ok-needs in
    rw c.if-deck.false (IfOk-weaker c.needs_text.result _ _
    (λ text is. (listed needs.needs, needs.ensures, is)) c.needs_text.ensures)
