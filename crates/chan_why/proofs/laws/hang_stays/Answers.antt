use Rattle.chan_why.proofs.Hanging.{hang_stays}
use Rattle.chan_why.proofs.laws.hang_stays.Goals as goal

pub returns : goal.returns
returns c = hang_stays
