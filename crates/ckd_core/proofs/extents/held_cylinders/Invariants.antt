-- The table is right for the pairs so far, and the run is marked.
use Rattle.std.proofs.Common.{take}
use Rattle.ckd_core.specs.HeldExtents.{IsHeldRun, IsHeldTable}
use Rattle.ckd_core.proofs.extents.held_cylinders.Given as goal

abbrev pub invariant-loop-pair : goal.invariant-loop-pair
invariant-loop-pair l = IsHeldTable (take l.pair-index l.pairs) l.held × IsHeldRun l.held l.run.0 l.run.1
