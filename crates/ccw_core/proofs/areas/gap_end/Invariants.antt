use Rattle.ccw_core.proofs.Covering.{IsGapAmong}
use Rattle.ccw_core.proofs.areas.gap_end.Given as goal

abbrev pub invariant-loop-area : goal.invariant-loop-area
invariant-loop-area l = IsGapAmong l.areas l.start l.end l.area-index l.stop
