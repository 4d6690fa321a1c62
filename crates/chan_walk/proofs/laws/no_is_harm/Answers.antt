use Rattle.chan_walk.proofs.Machine.Harm.{no_is_harm}
use Rattle.chan_walk.proofs.laws.no_is_harm.Goals as goal

pub returns : goal.returns
returns c = no_is_harm
