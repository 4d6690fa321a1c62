use Rattle.chan_walk.proofs.Names.{places_of, ◌++◌, ◌≡◌}
use Rattle.chan_walk.proofs.places.Explored.from_marks.Given as goal

abbrev pub invariant-loop-address : goal.invariant-loop-address
invariant-loop-address l = l.places.items ++ places_of l.address-iterator ≡ places_of l.fn.marks.entries
