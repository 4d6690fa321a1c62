use Rattle.chan_needs.proofs.Beginning.{others_may_change}
use Rattle.chan_needs.proofs.laws.others_may_change.Goals as goal

pub returns : goal.returns
returns c = others_may_change
