use Rattle.chan_needs.proofs.Names.{All, arith, EndsBelow, merged_len, subst, sym, ◌+◌, ◌^◌}
use Rattle.chan_needs.proofs.Holding.{nowhere}
use Rattle.chan_needs.proofs.needs.runs.Goals as goal

pub overflow_sub-last : goal.overflow_sub-last
overflow_sub-last c =
    let f = merged_len c.as_slice-areas.result.now c.loop-area.area-index nowhere c.as_slice-areas.ensures.merged c.loop-area-test.true in
    omega arith

pub overflow_cast-area : goal.overflow_cast-area
overflow_cast-area c =
    let low = subst (All (EndsBelow (2 ^ 16 + 1))) (sym c.as_slice-areas.ensures.areas) c.requires in
    let e = low c.loop-area.area-index nowhere c.loop-area-test.true in
    let f = merged_len c.as_slice-areas.result.now c.loop-area.area-index nowhere c.as_slice-areas.ensures.merged c.loop-area-test.true in
    omega arith
