-- The sum stays below the end of the area.
use Rattle.chan_needs.proofs.Names.{ap, arith, get_or, sym, ◌+◌, ◌∙◌}
use Rattle.chan_needs.proofs.Holding.{nowhere}
use Rattle.chan_needs.proofs.Inside.{total_fits, total_next}
use Rattle.chan_needs.proofs.remembered.kept_len.Goals as goal

pub overflow_add-len : goal.overflow_add-len
overflow_add-len c =
    let fits = total_fits c.args.areas.now c.loop-area.area-index c.requires c.loop-area-test.true in
    let so_far = c.loop-area.invariant in
    omega arith

pub loop-area-preserved : goal.loop-area-preserved
loop-area-preserved c =
    ap (λ n. n + (get_or c.args.areas.now c.loop-area.area-index nowhere).len) c.loop-area.invariant
    ∙ sym (total_next c.args.areas.now c.loop-area.area-index c.loop-area-test.true)
