use Rattle.chan_walk.proofs.Machine.Exact.{safe_is_yes}
use Rattle.chan_walk.proofs.laws.safe_is_yes.Goals as goal

pub returns : goal.returns
returns c = safe_is_yes
