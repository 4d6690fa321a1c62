use Rattle.chan_needs.proofs.Names.{arith}
use Rattle.chan_needs.proofs.Holding.{share_here}
use Rattle.chan_needs.proofs.least_bytes.least_of_merged.Goals as goal

pub returns-else-end_of-from-2 : goal.returns-else-end_of-from-2
returns-else-end_of-from-2 c =
    share_here c.args.one.now c.args.other.now c.loop-at.at c.loop-at.with c.max.result c.requires.one c.requires.other
    (omega arith) (omega arith) (omega arith) (omega arith) c.max.ensures c.loop-at.invariant
