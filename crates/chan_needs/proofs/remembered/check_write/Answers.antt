use Rattle.chan_needs.proofs.Names.{arith, KeepsNone, map}
use Rattle.chan_needs.proofs.Remembering.{writes_well}
use Rattle.chan_needs.proofs.Rows.{all_rows, all_within, row_at}
use Rattle.chan_needs.specs.Row.{in_row}
use Rattle.chan_needs.proofs.remembered.check_write.Goals as goal

pub returns-in-Some-clause-keeper : goal.returns-in-Some-clause-keeper
returns-in-Some-clause-keeper c =
    let rows = c.args.in_flight.now in (
      _,
      row_at rows c.loop-i.i _ c.loop-i-test.true,
      all_within (KeepsNone c.args.area) rows c.loop-i.i (omega arith) c.loop-i.invariant,
      c.in-Some.ensures,
    )

pub returns-clause-keeper : goal.returns-clause-keeper
returns-clause-keeper c = all_rows (KeepsNone c.args.area) c.args.in_flight.now (λ k d l. c.loop-i.invariant k d (omega arith) (omega arith))

pub returns-clause-well : goal.returns-clause-well
returns-clause-well c = λ e. writes_well (map in_row c.args.in_flight.now) c.args.area (returns-clause-keeper c)
