use Rattle.chan_needs.proofs.Asking.{asked_once}
use Rattle.chan_needs.proofs.laws.asked_once.Goals as goal

pub returns : goal.returns
returns c = asked_once
