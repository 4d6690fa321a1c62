use Rattle.chan_walk.proofs.Names.{All, AreLooks, EndsBelow, Job, moves_by, places_of_looks, take, ◌^◌}
use Rattle.chan_walk.proofs.Algorithms.Guarding.{HoldBytes}
use Rattle.chan_walk.proofs.Algorithms.Moved.{HasData}
use Rattle.chan_walk.proofs.moved.data_moved.Given as goal

abbrev pub invariant-loop-look : goal.invariant-loop-look
invariant-loop-look l = record {
  low : All (EndsBelow (2 ^ 32)) l.ranges.items;
  bytes : (j : Job) → AreLooks j l.looks → HoldBytes (HasData (moves_by l.direction) j) (places_of_looks (take l.look-index l.looks)) l.ranges.items;
}
