use Rattle.std.proofs.Common.{arith, inl, inr}
use Rattle.ccw_core.proofs.Covering.{lies_in-at, lies_in-more, lies_in-nil}
use Rattle.ccw_core.proofs.areas.reach.Goals as goal
use Rattle.ccw_core.proofs.areas.reach.Goals.{else-start-address-via-then-start-address+else-address-end, else-start-address-via-else-start-address}

pub loop-area-init : goal.loop-area-init
loop-area-init c = lies_in-nil c.args.address

pub returns-then-address-end-clause-each : goal.returns-then-address-end-clause-each
returns-then-address-end-clause-each c =
    λ b l h. lies_in-at c.args.areas.now c.loop-area.area-index (record { start = 0; len = 0 }) b (omega arith) (omega arith) (omega arith)

pub loop-area-preserved : goal.loop-area-preserved
loop-area-preserved c =
    lies_in-more c.args.areas.now c.loop-area.area-index (record { start = 0; len = 0 }) c.args.address (omega arith) c.loop-area.invariant
    (elim c.else-start-address.branch [
      | else-start-address-via-then-start-address+else-address-end w ↦ let k = w.if-address-end.false in inr (omega arith)
      | else-start-address-via-else-start-address w ↦ let k = w.if-start-address.false in inl (omega arith)
    ])
