use Rattle.chan_why.proofs.Names.{arith, IsIndex, length, subst, TakesByte, ◌≡◌}
use Rattle.chan_why.proofs.finder.takers_of.Goals as goal

pub returns : goal.returns
returns c =
    let e : c.loop-at.at ≡ length c.args.looks.now = omega arith in
    subst (λ n. IsIndex (TakesByte c.args.looks.now n) c.loop-at.first) e c.loop-at.invariant
