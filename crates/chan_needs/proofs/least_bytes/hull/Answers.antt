use Rattle.std.proofs.lemmas.Grind.{common_steps}
use Rattle.chan_needs.proofs.Names.{arith, inl, inr}
use Rattle.chan_needs.proofs.Leasts.{areas_more, no_byte}
use Rattle.chan_needs.proofs.least_bytes.hull.Goals as goal

pub loop-area-init : goal.loop-area-init
loop-area-init c = λ b h. absurd (no_byte b h)

pub loop-area-preserved : goal.loop-area-preserved
loop-area-preserved c = λ b h.
    elim ((areas_more c.args.areas.now c.loop-area.area-index b c.loop-area-test.true).0 h) [
      | inl before ↦ let k = c.loop-area.invariant b before in
          let from = c.min-start.ensures in let to = c.max-end.ensures in grind (arith, common_steps)
      | inr here ↦ let from = c.min-start.ensures in let to = c.max-end.ensures in
          let start = c.from.ensures in let end = c.end_of.ensures in grind (arith, common_steps)
    ]
