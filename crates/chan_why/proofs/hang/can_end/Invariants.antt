use Rattle.chan_why.proofs.Names.{AreLooks, Job, length, MarksFound, ◌-◌}
use Rattle.chan_why.proofs.Retracing.{Retraces}
use Rattle.chan_why.proofs.hang.can_end.Given as goal

abbrev pub invariant-loop-at : goal.invariant-loop-at
invariant-loop-at l = record {
  marked : MarksFound (length l.looks) l.found;
  traced : (j : Job) (are : AreLooks j l.looks) → Retraces j l.looks are l.found.order.items l.at;
}

abbrev pub decreases-loop-at : goal.decreases-loop-at
decreases-loop-at l = length l.looks - l.at
