use Rattle.chan_needs.proofs.Names.{inl, inr, least_same, rules}
use Rattle.chan_needs.proofs.Holding.{none_shared}
use Rattle.chan_needs.proofs.Leasts.{least_area}
use Rattle.chan_needs.proofs.least_bytes.least_shared.Goals as goal
use Rattle.chan_needs.proofs.least_bytes.least_shared.Goals.{then-is_empty-via-then-is_empty, then-is_empty-via-else-is_empty+then-is_empty-2}

pub loop-area-preserved : goal.loop-area-preserved
loop-area-preserved c =
    least_area c.args.one.now c.loop-area.area-index _ c.loop-area.least c.least_in.result _ c.loop-area-test.true c.lesser-least.ensures c.loop-area.invariant
    (least_same _ _ c.least_in.result (λ b h. (h.1, h.0)) (λ b h. (h.1, h.0)) c.least_in.ensures)

pub returns-then-is_empty : goal.returns-then-is_empty
returns-then-is_empty c =
    none_shared c.args.one.now c.args.other.now
    (elim c.then-is_empty.branch [
      | then-is_empty-via-then-is_empty w ↦ inl (search (rules, c.is_empty.ensures, w.if-is_empty))
      | then-is_empty-via-else-is_empty+then-is_empty-2 w ↦ inr (search (rules, w.is_empty-else-is_empty.ensures, w.if-is_empty-2))
    ])
