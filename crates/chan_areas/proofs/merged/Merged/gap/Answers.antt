use Rattle.std.proofs.Common.{arith, subst, sym}
use Rattle.ccw_core.specs.Areas.{IsGap}
use Rattle.chan_areas.proofs.Gaps.{before_next, gap_from, no_gap}
use Rattle.chan_areas.proofs.merged.Merged.gap.Goals as goal
use Rattle.chan_areas.proofs.merged.Merged.gap.Goals.{in-Some, in-None}

pub returns-in_err-start : goal.returns-in_err-start
returns-in_err-start c = subst (IsGap c.args.self.now c.args.range) (sym c.from_residual.ensures) (no_gap c.args.self.now c.args.range c.in_err-start.ensures)

pub returns : goal.returns
returns c =
    let xs = c.args.self.now in
    let start = c.in_ok-start.start in
    let out = c.in_ok-start.ensures in
    elim c.match-next_area.branch [
      | in-Some w ↦
          let next = w.in-Some.ensures in
          let l = before_next xs start w.in-Some.area out.0.1 next in
          let e = w.end-is in
          let m = w.min-end.ensures in
          gap_from xs c.args.range start c.match-next_area.end out (omega (arith, out.0.0.1)) (omega arith) (λ b f k. next.before b f (omega arith))
          (λ k. next.inside c.match-next_area.end (omega arith) (omega (arith, next.ends, next.filled)))
      | in-None w ↦
          let e = w.end-is in
          gap_from xs c.args.range start c.match-next_area.end out (omega (arith, out.0.0.1)) (omega arith)
          (λ b f k. w.in-None.ensures b f) (λ k. absurd (omega arith))
    ]
