use Rattle.std.proofs.Common.{◌≡◌, ◌+◌, ◌<◌, ◌==◌, arith, bit_and, is_some, eq-eqb}
use Rattle.std.proofs.lemmas.Bool.{eqb-true}
use Rattle.std.proofs.lemmas.Nat.{and-not, and_comm}
use Rattle.ccw_core.specs.Ccw.{is_formed}
use Rattle.bitflags.proofs.OnLiterals.{bitflags_on_literals}
use Rattle.std.specs.Cmp.Derive.{one_truth}
use Rattle.ccw_core.proofs.ccw.Ccw.known_flags.Goals as goal

pub returns-clause-found : goal.returns-clause-found
unfolding bitflags_on_literals
returns-clause-found c =
    let f = c.self.inside.flags in
    let small : f < 256 = omega arith in
    let split : bit_and 248 f + bit_and 7 f ≡ f = and-not 8 7 f (omega arith) small in
    let known = c.from_bits.ensures.known tt in
    let same : bit_and 248 f ≡ bit_and f 248 = and_comm 248 f in
    let same7 : bit_and 7 f ≡ bit_and f 7 = and_comm 7 f in
    rw (← c.self.view_is)
    (λ some. let e = known.0 some in omega arith, λ none. known.1 (omega arith))

pub returns-clause-formed : goal.returns-clause-formed
unfolding is_formed
returns-clause-formed c =
    let found = returns-clause-found c in
    one_truth (is_some c.from_bits.result) (bit_and c.args.self.now.flags 7 == 0)
    (λ some. eq-eqb _ _ (found.0 some)) (λ zero. found.1 (eqb-true _ _ zero))
