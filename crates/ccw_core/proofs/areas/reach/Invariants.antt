use Rattle.std.proofs.Common.{take, ◌≡◌, false}
use Rattle.ccw_core.specs.Areas.{lies_in}
use Rattle.ccw_core.proofs.areas.reach.Given as goal

abbrev pub invariant-loop-area : goal.invariant-loop-area
invariant-loop-area l = lies_in (take l.area-index l.areas) l.address ≡ false
