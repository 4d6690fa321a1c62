use Rattle.chan_needs.proofs.Beginning.{each_may_start}
use Rattle.chan_needs.proofs.laws.each_may_start.Goals as goal

pub returns : goal.returns
returns c = each_may_start
