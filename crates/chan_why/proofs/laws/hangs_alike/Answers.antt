use Rattle.chan_why.proofs.Hanging.{hangs_alike}
use Rattle.chan_why.proofs.laws.hangs_alike.Goals as goal

pub returns : goal.returns
returns c = hangs_alike
