use Rattle.std.proofs.Common.{◌≡◌, ◌+◌, ◌-◌, true, subst, sym, arith}
use Rattle.ccw_core.specs.Areas.{lies_in}
use Rattle.ccw_core.proofs.Covering.{covered-true, covered-false}
use Rattle.ccw_core.proofs.areas.gap_among.Goals as goal

pub returns-then-start-from : goal.returns-then-start-from
returns-then-start-from c =
    covered-true c.args.areas.now c.args.range.start c.args.range.len (λ b l h. c.gap_start-start.ensures.before b (omega arith) (omega arith))

pub returns : goal.returns
returns c =
    let out = c.gap_start-start.ensures.out (omega arith) in
    let stop : c.gap_start-start.result + (c.gap_end.result - c.gap_start-start.result) ≡ c.gap_end.result = omega arith in (
      covered-false c.args.areas.now c.args.range.start c.args.range.len c.gap_start-start.result (omega arith) (omega arith) out,
      record {
        from = omega arith;
        filled = omega arith;
        within = omega arith;
        before = λ b l h. c.gap_start-start.ensures.before b (omega arith) h;
        inside = λ b l h. c.gap_end.ensures.inside b l (omega arith);
        after = λ l. subst (λ b. lies_in c.args.areas.now b ≡ true) (sym stop) (c.gap_end.ensures.after (omega arith));
      },
    )
