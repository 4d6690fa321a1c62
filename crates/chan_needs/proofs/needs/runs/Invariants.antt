use Rattle.chan_needs.proofs.Names.{map, run_of, take, ◌≡◌}
use Rattle.chan_needs.proofs.needs.runs.Given as goal

abbrev pub invariant-loop-area : goal.invariant-loop-area
invariant-loop-area l = l.runs.items ≡ map run_of (take l.area-index l.areas)
