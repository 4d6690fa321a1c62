use Rattle.chan_walk.proofs.Algorithms.Counting.{few_is_not_many}
use Rattle.chan_walk.proofs.laws.few_is_not_many.Goals as goal

pub returns : goal.returns
returns c = few_is_not_many
