use Rattle.std.proofs.Common.{length}
use Rattle.chan_run.proofs.texts.+write_each.Given as goal

abbrev pub decreases-write_each : goal.decreases-write_each
decreases-write_each g l = length l.texts.now
