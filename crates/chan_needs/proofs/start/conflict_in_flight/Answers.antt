use Rattle.chan_needs.proofs.Names.{arith, IsCompatibleWith}
use Rattle.chan_needs.proofs.Rows.{all_rows, all_within, row_at}
use Rattle.chan_needs.proofs.start.conflict_in_flight.Goals as goal

pub returns-in-Some : goal.returns-in-Some
returns-in-Some c =
    let p = c.args.program.now in
    let rows = c.args.in_flight.now in
    let number = c.loop-i.i in (
      _,
      row_at rows number _ c.loop-i-test.true,
      all_within (IsCompatibleWith p) rows number (omega arith) c.loop-i.invariant,
      c.in-Some.ensures,
    )

pub returns : goal.returns
returns c = all_rows (IsCompatibleWith c.args.program.now) c.args.in_flight.now (λ k d l. c.loop-i.invariant k d (omega arith) (omega arith))
