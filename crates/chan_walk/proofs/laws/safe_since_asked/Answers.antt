use Rattle.chan_walk.proofs.Machine.Again.{safe_since_asked}
use Rattle.chan_walk.proofs.laws.safe_since_asked.Goals as goal

pub returns : goal.returns
returns c = safe_since_asked
