use Rattle.chan_walk.proofs.Machine.Exact.{headline_alone_is_enough}
use Rattle.chan_walk.proofs.laws.headline_alone_is_enough.Goals as goal

pub returns : goal.returns
returns c = headline_alone_is_enough
