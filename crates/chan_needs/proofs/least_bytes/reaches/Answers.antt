use Rattle.chan_needs.proofs.Names.{arith, inl, inr}
use Rattle.chan_needs.proofs.Leasts.{areas_more, no_byte}
use Rattle.chan_needs.proofs.least_bytes.reaches.Goals.{else-from-range-via-then-from-range+else-range-end_of, else-from-range-via-else-from-range}
use Rattle.chan_needs.proofs.least_bytes.reaches.Goals as goal

pub loop-area-init : goal.loop-area-init
loop-area-init c = λ b h within. no_byte b h

pub loop-area-preserved : goal.loop-area-preserved
loop-area-preserved c = λ b h within.
    elim ((areas_more c.args.areas.now c.loop-area.area-index b c.loop-area-test.true).0 h) [
      | inl before ↦ c.loop-area.invariant b before within
      | inr here ↦ let start = c.from.ensures in
          elim c.else-from-range.branch [
            | else-from-range-via-then-from-range+else-range-end_of w ↦ let end = w.end_of.ensures in
                let ended = w.if-range-end_of.false in omega (arith, here.0, here.1, within.0, within.1, end, ended)
            | else-from-range-via-else-from-range w ↦ let begun = w.if-from-range.false in
                omega (arith, here.0, within.1, start, begun)
          ]
    ]
