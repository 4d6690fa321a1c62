-- A pair that is neither backwards nor past the device is an extent.
use Rattle.std.proofs.Common.{◌≡◌, ◌<◌, take, length, arith, take_all}
use Rattle.std.specs.List.{All}
use Rattle.std.proofs.lemmas.Bool.Decides.{nat_tests}
use Rattle.std.proofs.lemmas.List.Elements.{All-more, recursion_from_All}
use Rattle.ckd_core.specs.Extents.{IsExtent}
use Rattle.ckd_core.proofs.extents.judge.Goals as goal

pub loop-i-preserved : goal.loop-i-preserved
loop-i-preserved c =
    All-more IsExtent c.args.pairs.now c.loop-i.i (0, 0) c.loop-i-test.true c.loop-i.invariant (c.if-first-last.false, c.if-last-gt-LAST_CYLINDER.false)

pub returns : goal.returns
returns c =
    let whole : take c.loop-i.i c.args.pairs.now ≡ c.args.pairs.now = take_all c.loop-i.i c.args.pairs.now c.loop-i-test.false in
    let all : All IsExtent c.args.pairs.now = rw whole at c.loop-i.invariant in
    let some : 0 < length c.args.pairs.now = grind (arith, nat_tests) in
    (some, recursion_from_All IsExtent c.args.pairs.now all)
