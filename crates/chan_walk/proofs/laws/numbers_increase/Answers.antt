use Rattle.chan_walk.proofs.Theory.Order.{numbers_increase}
use Rattle.chan_walk.proofs.laws.numbers_increase.Goals as goal

pub returns : goal.returns
returns c = numbers_increase
