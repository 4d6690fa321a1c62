use Rattle.std.proofs.Common.{arith, inl, inr}
use Rattle.std.proofs.lemmas.Result.{IfOk-weaker}
use Rattle.chan_run.proofs.image_programs.program_line.Goals as goal

pub returns-then-left-eq0 : goal.returns-then-left-eq0
returns-then-left-eq0 c = λ image there.
    IfOk-weaker c.unjudged_text.result _ _ (λ line is. inl (c.if-left-eq0.true, is, c.if-left-eq0.true)) c.unjudged_text.ensures

pub returns : goal.returns
returns c = λ image there.
    inr (omega arith, c.in_ok-line.places, c.in_ok-line.ensures image there, c.saturating_sub.ensures)
