use Rattle.chan_walk.specs.Job.{storage_of}
use Rattle.chan_find.proofs.Passing.{AreLeftAndTaken}
use Rattle.chan_find.proofs.programs.highest_apart.Given as goal

abbrev pub invariant-loop-start : goal.invariant-loop-start
invariant-loop-start l = AreLeftAndTaken (storage_of l.job) l.rest.items l.kept.items

abbrev pub decreases-loop-start : goal.decreases-loop-start
decreases-loop-start l = l.rest.len
