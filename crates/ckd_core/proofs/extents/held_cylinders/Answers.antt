-- Each pair marks the cylinders of its extent.
use Rattle.std.proofs.Common.{false, sym, arith}
use Rattle.std.proofs.lemmas.List.{get_or-replicate}
use Rattle.ckd_core.proofs.CylinderLemmas.{extent_at, has_cylinder-more}
use Rattle.ckd_core.specs.Extents.{has_cylinder}
use Rattle.ckd_core.specs.declared.device.TheConstants.{CYLINDERS}
use Rattle.ckd_core.proofs.extents.held_cylinders.Goals as goal

pub loop-pair-init : goal.loop-pair-init
unfolding has_cylinder
loop-pair-init c = (
  λ cylinder below. get_or-replicate CYLINDERS cylinder false false below,
  record { within = omega arith; marked = λ cylinder above below. absurd (omega (arith, below)) },
)

pub hold_beside-run-requires-clause-order : goal.hold_beside-run-requires-clause-order
hold_beside-run-requires-clause-order c =
    let e = extent_at c.args.pairs.now c.loop-pair.pair-index c.requires (omega arith) in
    omega (arith, c.from.ensures, c.from-in-loop-pair.ensures, e.0, e.1)

pub loop-pair-preserved : goal.loop-pair-preserved
loop-pair-preserved c = (
  λ cylinder below.
      let more = has_cylinder-more c.args.pairs.now c.loop-pair.pair-index cylinder (omega arith) in
      rw (c.hold_beside-run.ensures.held cylinder below, c.loop-pair.invariant.0 cylinder below, c.from.ensures, c.from-in-loop-pair.ensures) (sym more),
  c.hold_beside-run.ensures.run,
)
