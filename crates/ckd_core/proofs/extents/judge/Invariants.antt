-- Each pair so far is an extent.
use Rattle.std.proofs.Common.{take}
use Rattle.std.specs.List.{All}
use Rattle.ckd_core.specs.Extents.{IsExtent}
use Rattle.ckd_core.proofs.extents.judge.Given as goal

abbrev pub invariant-loop-i : goal.invariant-loop-i
invariant-loop-i l = All IsExtent (take l.i l.pairs)
