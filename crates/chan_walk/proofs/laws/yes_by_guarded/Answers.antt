use Rattle.chan_walk.proofs.Machine.Again.{yes_by_guarded}
use Rattle.chan_walk.proofs.laws.yes_by_guarded.Goals as goal

pub returns : goal.returns
returns c = yes_by_guarded
