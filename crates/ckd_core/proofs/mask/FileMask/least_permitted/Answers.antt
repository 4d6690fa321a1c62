use Rattle.std.proofs.Common.{◌≡◌, ◌-◌, sym, ◌∙◌, ap, arith}
use Rattle.ckd_core.specs.Mask.{first_command, least_permitted, permits_beyond}
use Rattle.ckd_core.proofs.Permitting.{first_left}
use Rattle.ckd_core.proofs.mask.FileMask.least_permitted.Goals as goal

pub returns-in-Some : goal.returns-in-Some
unfolding least_permitted
returns-in-Some c =
    let t = permits_beyond c.args.self.now c.args.than in
    sym (c.loop-code.invariant ∙ first_left t c.loop-code.code _ (omega arith) c.in-Some.ensures)

pub loop-code-preserved : goal.loop-code-preserved
loop-code-preserved c =
    let t = permits_beyond c.args.self.now c.args.than in
    c.loop-code.invariant ∙ first_left t c.loop-code.code _ (omega arith) c.in_default.ensures

pub returns : goal.returns
unfolding least_permitted
returns c =
    let t = permits_beyond c.args.self.now c.args.than in
    let none : 256 - c.loop-code.code ≡ 0 = omega arith in
    sym (c.loop-code.invariant ∙ ap (first_command t c.loop-code.code) none)
