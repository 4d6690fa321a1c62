-- No extent reaches past the last cylinder of a device.
use Rattle.std.proofs.Common.{◌≡◌, arith, false, nat_lt}
use Rattle.std.proofs.lemmas.Bool.Decides.{nat_tests}
use Rattle.ckd_core.proofs.CylinderLemmas.{has_cylinder-past}
use Rattle.ckd_core.proofs.extents.Extents.has.Goals as goal
use Rattle.ckd_core.specs.declared.device.TheConstants.{CYLINDERS}

pub returns-else-index-lt-CYLINDERS : goal.returns-else-index-lt-CYLINDERS
returns-else-index-lt-CYLINDERS c =
    let past : nat_lt c.from-index.result CYLINDERS ≡ false = grind (arith, nat_tests) in
    rw (past, ← c.self.view_is, has_cylinder-past c.self.inside.pairs.items c.args.cylinder c.self.invariant.extents_right.1 (omega arith))
