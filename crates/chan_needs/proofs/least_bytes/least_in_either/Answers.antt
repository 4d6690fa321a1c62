use Rattle.chan_needs.proofs.Names.{IsByteOf}
use Rattle.chan_needs.proofs.Leasts.{least_besides}
use Rattle.chan_needs.proofs.least_bytes.least_in_either.Goals as goal

pub returns : goal.returns
returns c =
    rw c.lesser.ensures
    (least_besides c.args.area c.args.areas.now (IsByteOf c.args.range) c.overlap.result c.least_in-least.result c.if-area-eq0.false
    c.overlap.ensures c.least_in-least.ensures)
