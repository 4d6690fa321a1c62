use Rattle.chan_needs.proofs.Asking.{safe_is_granted}
use Rattle.chan_needs.proofs.laws.safe_is_granted.Goals as goal

pub returns : goal.returns
returns c = safe_is_granted
