use Rattle.chan_walk.specs.Job.{storage_of}
use Rattle.chan_find.proofs.Passing.{down_turn}
use Rattle.chan_find.proofs.programs.highest_apart.Goals as goal

pub loop-start-preserved : goal.loop-start-preserved
loop-start-preserved c =
    down_turn (storage_of c.args.job.now) c.loop-start.rest.items c.pop.new.self.items c.loop-start.kept.items
    c.offer.new.taken.items c.in-Some.start c.in-Some.ensures.items c.in_ok-offer.ensures c.loop-start.invariant
