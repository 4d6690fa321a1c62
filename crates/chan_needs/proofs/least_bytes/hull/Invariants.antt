use Rattle.chan_needs.proofs.Names.{take}
use Rattle.chan_needs.specs.LeastBytes.{LieWithin}
use Rattle.chan_needs.proofs.least_bytes.hull.Given as goal

abbrev pub invariant-loop-area : goal.invariant-loop-area
invariant-loop-area l = LieWithin (take l.area-index l.areas) (l.start, l.end)
