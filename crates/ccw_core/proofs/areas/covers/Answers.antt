use Rattle.std.proofs.Common.{◌≡◌, ◌+◌, ◌<◌, ◌≤◌, nat_le, sym, ◌∙◌, ◌⊎◌, inl, inr, arith}
use Rattle.std.proofs.lemmas.Bool.{cases_lt, le-leb, lt-leb}
use Rattle.ccw_core.specs.Areas.{covered}
use Rattle.ccw_core.proofs.Covering.{covered-true, covered-false}
use Rattle.ccw_core.proofs.areas.covers.Goals as goal

pub returns : goal.returns
returns c = go (cases_lt c.gap_start.result (c.from.result + c.from-2.result))
  where
    go : (c.gap_start.result < c.from.result + c.from-2.result) ⊎ (c.from.result + c.from-2.result ≤ c.gap_start.result)
        → nat_le (c.from.result + c.from-2.result) c.gap_start.result ≡ covered c.args.areas.now c.args.start c.args.len
    go (inl lt) =
        lt-leb _ _ lt
        ∙ sym (covered-false c.args.areas.now c.args.start c.args.len c.gap_start.result (omega arith) (omega arith) (c.gap_start.ensures.out (omega arith)))
    go (inr le) =
        le-leb _ _ le ∙ sym (covered-true c.args.areas.now c.args.start c.args.len (λ b l h. c.gap_start.ensures.before b (omega arith) (omega arith)))
