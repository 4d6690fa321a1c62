use Rattle.chan_walk.proofs.Names.{AreLooks, IsTraced, IsWalked, places_of_looks, ◌+◌, ◌-◌}
use Rattle.chan_walk.specs.PlaceTable.{FindsPlaces}
use Rattle.chan_walk.proofs.walk.walk_all.Given as goal

abbrev pub invariant-loop-at : goal.invariant-loop-at
invariant-loop-at l = record {
  looks : AreLooks l.job l.walk.looks.items;
  finds : FindsPlaces l.walk.table (places_of_looks l.walk.looks.items);
  walked : IsWalked l.job l.job.limit (places_of_looks l.walk.looks.items) l.at;
  traced : IsTraced l.job (places_of_looks l.walk.looks.items) l.walk.found_from.items l.at l.at;
}

abbrev pub decreases-loop-at : goal.decreases-loop-at
decreases-loop-at l = (l.job.limit + 1) - l.at
