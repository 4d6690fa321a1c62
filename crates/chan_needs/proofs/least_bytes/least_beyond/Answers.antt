use Rattle.chan_needs.proofs.Leasts.{least_area}
use Rattle.chan_needs.proofs.least_bytes.least_beyond.Goals as goal

pub loop-area-preserved : goal.loop-area-preserved
loop-area-preserved c =
    least_area c.args.areas.now c.loop-area.area-index _ c.loop-area.least c.first_outside.result
    _ c.loop-area-test.true c.lesser-least.ensures c.loop-area.invariant c.first_outside.ensures
