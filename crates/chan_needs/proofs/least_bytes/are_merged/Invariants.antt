use Rattle.chan_needs.proofs.Leasts.{AreMergedBefore}
use Rattle.chan_needs.proofs.least_bytes.are_merged.Given as goal

abbrev pub invariant-loop-area : goal.invariant-loop-area
invariant-loop-area l = AreMergedBefore l.areas l.area-index l.least_start
