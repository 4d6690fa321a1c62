use Rattle.chan_walk.proofs.Machine.Harm.{harmless_is_safe}
use Rattle.chan_walk.proofs.laws.harmless_is_safe.Goals as goal

pub returns : goal.returns
returns c = harmless_is_safe
