use Rattle.std.proofs.Common.{◌+◌, subst, sym, arith}
use Rattle.ccw_core.specs.declared.areas.Area.{Area}
use Rattle.ccw_core.proofs.Covering.{IsGapAmong, lies_in-nil, stops_later, stops_there}
use Rattle.ccw_core.proofs.areas.gap_end.Goals as goal
use Rattle.ccw_core.proofs.areas.gap_end.Goals.{then-area-gt0+then-start-area+then-area-stop, else-area-gt0, else-area-gt0-via-then-area-gt0+then-start-area+else-area-stop, else-area-gt0-via-then-area-gt0+else-start-area, else-area-gt0-via-else-area-gt0}

pub loop-area-init : goal.loop-area-init
loop-area-init c = record { filled = omega arith; within = omega arith; inside = λ b l h. lies_in-nil b; after = λ l. absurd (omega arith) }

pub loop-area-preserved : goal.loop-area-preserved
loop-area-preserved c =
    let areas = c.args.areas.now in
    let i = c.loop-area.area-index in
    let d : Area = record { start = 0; len = 0 } in
    let g = c.loop-area.invariant in
    elim c.if-area-gt0.branch [
      | then-area-gt0+then-start-area+then-area-stop w ↦ subst (IsGapAmong areas c.args.start c.args.end (i + 1)) (sym w.stop-is)
          (stops_there areas c.args.start c.args.end i c.loop-area.stop d g (omega arith) c.requires.out (omega arith) (omega arith) (omega arith))
      | else-area-gt0 w ↦ subst (IsGapAmong areas c.args.start c.args.end (i + 1)) (sym w.stop-is)
          (stops_later areas c.args.start c.args.end i c.loop-area.stop d g (omega arith) c.requires.out
          (elim w.else-area-gt0.branch [
            | else-area-gt0-via-then-area-gt0+then-start-area+else-area-stop v ↦ λ s f. omega arith
            | else-area-gt0-via-then-area-gt0+else-start-area v ↦ λ s f. absurd (omega arith)
            | else-area-gt0-via-else-area-gt0 v ↦ λ s f. absurd (omega arith)
          ]))
    ]
