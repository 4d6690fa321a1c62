use Rattle.chan_why.proofs.Names.{ap, arith, IsFirstPlace, IsLeftUnmarked, length, place_at, places_of_looks, Some, subst, sym, ◌+◌, ◌∙◌, ◌≡◌}
use Rattle.chan_why.proofs.Retracing.{left_marked, left_more}
use Rattle.chan_why.proofs.hang.first_left.Goals as goal
use Rattle.chan_why.proofs.hang.first_left.Goals.{then-not-marks-at, else-not-marks-at}

pub loop-at-preserved : goal.loop-at-preserved
loop-at-preserved c =
    let ps = places_of_looks c.args.looks.now in
    let i = c.loop-at.at in
    elim c.if-not-marks-at.branch [
      | then-not-marks-at w ↦
          let here = place_at c.args.looks.now i w.index-looks-at.result c.loop-at-test.true w.index-looks-at.is ∙ ap Some (sym w.place.ensures) in
          subst (IsFirstPlace (IsLeftUnmarked ps c.args.marks.now (i + 1))) (sym w.first-is)
          (left_more ps c.args.marks.now i c.loop-at.first c.loop-at.invariant w.place.result w.earlier.result here w.if-not-marks-at.true w.earlier.ensures)
      | else-not-marks-at w ↦ subst (IsFirstPlace (IsLeftUnmarked ps c.args.marks.now (i + 1))) (sym w.first-is)
          (left_marked ps c.args.marks.now i c.loop-at.first c.loop-at.invariant w.if-not-marks-at.false)
    ]

pub returns : goal.returns
returns c =
    let e : c.loop-at.at ≡ length c.args.looks.now = omega arith in
    subst (λ n. IsFirstPlace (IsLeftUnmarked (places_of_looks c.args.looks.now) c.args.marks.now n) c.loop-at.first) e c.loop-at.invariant
