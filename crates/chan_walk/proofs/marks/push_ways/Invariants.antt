use Rattle.chan_walk.proofs.Names.{ways, ◌++◌, ◌-◌, ◌≡◌}
use Rattle.chan_walk.proofs.marks.push_ways.Given as goal

abbrev pub invariant-loop-way : goal.invariant-loop-way
invariant-loop-way l = l.places.items ++ ways l.address l.bits l.way (8 - l.way) ≡ l.fn.places.items ++ ways l.address l.bits 0 8
