use Rattle.chan_needs.proofs.Names.{take}
use Rattle.chan_needs.specs.LeastBytes.{LieApart}
use Rattle.chan_needs.proofs.least_bytes.reaches.Given as goal

abbrev pub invariant-loop-area : goal.invariant-loop-area
invariant-loop-area l = LieApart (take l.area-index l.areas) l.range
