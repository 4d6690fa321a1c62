use Rattle.chan_walk.proofs.Names.{rules}
use Rattle.chan_walk.proofs.Algorithms.Looking.{next_faulty, own_faulty, taken_faulty}
use Rattle.chan_walk.proofs.Theory.Found.{own_of_check}
use Rattle.chan_walk.proofs.look.look_at_nothing.Goals as goal

pub returns-clause-look : goal.returns-clause-look
returns-clause-look c = search (rules, own_of_check, own_faulty, taken_faulty, next_faulty)
