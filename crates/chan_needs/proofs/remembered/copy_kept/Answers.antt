use Rattle.chan_needs.proofs.Names.{arith, bytes_held, get_or}
use Rattle.chan_needs.proofs.Copied.{copied_more, range_read}
use Rattle.chan_needs.proofs.Holding.{nowhere}
use Rattle.chan_needs.proofs.remembered.copy_kept.Goals as goal

pub loop-area-preserved : goal.loop-area-preserved
loop-area-preserved c =
    let s = bytes_held c.args.storage.now in
    let read = range_read s (get_or c.args.areas.now c.loop-area.area-index nowhere) c.in_ok-bytes.bytes.now c.in_ok-bytes.ensures in
    let fits = c.loop-area.invariant.fits in
    copied_more s c.args.areas.now c.loop-area.area-index c.args.into.now c.loop-area.at c.loop-area.into c.loop-area.invariant
    c.in_ok-bytes.bytes.now c.loop-area-test.true read.1 c.write_at.new.into read.0 (omega arith) c.write_at.ensures
