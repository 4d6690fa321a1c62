use Rattle.chan_walk.proofs.Names.{rules}
use Rattle.chan_walk.proofs.Algorithms.Marks.{mark_put}
use Rattle.chan_walk.proofs.marks.mark.Goals as goal

pub returns-clause-ok : goal.returns-clause-ok
returns-clause-ok c = mark_put c.args.marks.now c.insert.new.self c.args.place c.way.result _ c.way.ensures.value (search rules) c.in_ok-insert.ensures.updates
