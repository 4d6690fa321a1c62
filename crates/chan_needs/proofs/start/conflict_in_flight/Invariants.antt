use Rattle.chan_needs.proofs.Names.{AllWithin, IsCompatibleWith}
use Rattle.chan_needs.specs.Row.{in_row}
use Rattle.chan_needs.specs.declared.layout.Row.{Row}
use Rattle.chan_needs.proofs.start.conflict_in_flight.Given as goal

abbrev pub invariant-loop-i : goal.invariant-loop-i
invariant-loop-i l = AllWithin (λ (r : Row). IsCompatibleWith l.program (in_row r)) l.in_flight 0 l.i
