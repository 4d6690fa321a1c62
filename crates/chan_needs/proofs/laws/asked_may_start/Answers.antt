use Rattle.chan_needs.proofs.Beginning.{asked_may_start}
use Rattle.chan_needs.proofs.laws.asked_may_start.Goals as goal

pub returns : goal.returns
returns c = asked_may_start
