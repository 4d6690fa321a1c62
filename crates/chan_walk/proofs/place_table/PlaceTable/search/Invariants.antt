use Rattle.chan_walk.proofs.Names.{length, places_of_looks, ◌+◌, ◌≤◌}
use Rattle.chan_walk.proofs.Algorithms.PlaceTable.{IsLeftBelow}
use Rattle.chan_walk.proofs.place_table.PlaceTable.search.Given as goal

abbrev pub invariant-loop-end : goal.invariant-loop-end
invariant-loop-end l = IsLeftBelow (length l.fn.self.last.items) (places_of_looks l.looks) l.place l.end × (l.compared + l.end ≤ length l.looks)

abbrev pub decreases-loop-end : goal.decreases-loop-end
decreases-loop-end l = l.end
