use Rattle.chan_why.proofs.Hanging.{hang_goes_on}
use Rattle.chan_why.proofs.laws.hang_goes_on.Goals as goal

pub returns : goal.returns
returns c = hang_goes_on
