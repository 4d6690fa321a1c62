use Rattle.chan_needs.proofs.Names.{arith, merged_len, ◌+◌}
use Rattle.chan_needs.proofs.Holding.{nowhere}
use Rattle.chan_needs.proofs.Leasts.{merged_next}
use Rattle.chan_needs.proofs.least_bytes.are_merged.Goals as goal
use Rattle.chan_needs.proofs.least_bytes.are_merged.Goals.{then-area-eq0-via-then-area-eq0, then-area-eq0-via-else-area-eq0+then-from-least_start}

pub returns-then-area-eq0 : goal.returns-then-area-eq0
returns-then-area-eq0 c = (
  (λ t. absurd cc),
  λ m. elim c.then-area-eq0.branch [
    | then-area-eq0-via-then-area-eq0 w ↦ absurd (let f = merged_len c.args.areas.now c.loop-area.area-index nowhere m c.loop-area-test.true in omega arith)
    | then-area-eq0-via-else-area-eq0+then-from-least_start w ↦ absurd (let f = c.loop-area.invariant.begins m c.loop-area-test.true in omega arith)
  ],
)

pub loop-area-preserved : goal.loop-area-preserved
loop-area-preserved c =
    merged_next c.args.areas.now c.loop-area.area-index c.loop-area.least_start (c.end_of-least_start.result + 1) c.loop-area-test.true
    (omega arith) (omega arith) (omega arith) c.loop-area.invariant
