use Rattle.chan_needs.proofs.Names.{AllWithin, KeepsNone}
use Rattle.chan_needs.specs.Row.{in_row}
use Rattle.chan_needs.specs.declared.layout.Row.{Row}
use Rattle.chan_needs.proofs.remembered.check_write.Given as goal

abbrev pub invariant-loop-i : goal.invariant-loop-i
invariant-loop-i l = AllWithin (λ (r : Row). KeepsNone l.area (in_row r)) l.in_flight 0 l.i
