use Rattle.chan_walk.proofs.Machine.Again.{verdict_byte_is_guarded}
use Rattle.chan_walk.proofs.laws.verdict_byte_is_guarded.Goals as goal

pub returns : goal.returns
returns c = verdict_byte_is_guarded
