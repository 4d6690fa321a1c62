use Rattle.chan_why.proofs.Names.{AreBuckets, ArePredecessors}
use Rattle.chan_why.proofs.hang.Predecessors.of_looks.Given as goal

abbrev pub invariant-loop-at : goal.invariant-loop-at
invariant-loop-at l = record { buckets : AreBuckets l.predecessors; are : ArePredecessors l.looks l.at l.predecessors.list.items }
