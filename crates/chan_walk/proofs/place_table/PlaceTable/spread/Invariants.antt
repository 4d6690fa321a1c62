use Rattle.chan_walk.proofs.Names.{places_of_looks, take}
use Rattle.chan_walk.specs.PlaceTable.{ListsPlaces}
use Rattle.chan_walk.proofs.place_table.PlaceTable.spread.Given as goal

abbrev pub invariant-loop-look : goal.invariant-loop-look
invariant-loop-look l = ListsPlaces l.self (places_of_looks (take l.look-index l.looks))
