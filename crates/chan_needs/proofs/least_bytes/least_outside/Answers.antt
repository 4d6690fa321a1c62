use Rattle.chan_needs.proofs.Leasts.{least_run}
use Rattle.chan_needs.proofs.least_bytes.least_outside.Goals as goal

pub loop-run-preserved : goal.loop-run-preserved
loop-run-preserved c =
    least_run c.args.runs.now c.loop-run.run-index _ c.loop-run.least c.outside.result _
    c.loop-run-test.true c.lesser_cylinder-least.ensures c.loop-run.invariant c.outside.ensures
