use Rattle.chan_walk.proofs.Names.{All, AreLooks, EndsBelow, IsArgumentByteOf, IsCcwByteOf, Job, places_of_looks, take, ◌^◌}
use Rattle.chan_walk.proofs.Algorithms.Guarding.{HoldBytes}
use Rattle.chan_walk.proofs.guard.Guard.of.Given as goal

abbrev pub invariant-loop-look : goal.invariant-loop-look
invariant-loop-look l = record {
  ccws : (j : Job) → AreLooks j l.looks → HoldBytes (IsCcwByteOf j) (places_of_looks (take l.look-index l.looks)) l.ccws.items;
  ccws_low : All (EndsBelow (2 ^ 32)) l.ccws.items;
  arguments : (j : Job) → AreLooks j l.looks → HoldBytes (IsArgumentByteOf j) (places_of_looks (take l.look-index l.looks)) l.arguments.items;
  arguments_low : All (EndsBelow (2 ^ 32)) l.arguments.items;
}
