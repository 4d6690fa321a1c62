use Rattle.chan_needs.proofs.Names.{IsFit, map, rules, storage_of}
use Rattle.chan_needs.proofs.Kept.{never_changed}
use Rattle.chan_needs.proofs.Remembering.{starts_well}
use Rattle.chan_needs.specs.Row.{in_row}
use Rattle.chan_needs.proofs.start.check_start.Goals as goal

pub returns-in-Some-first_changed-clause-exact : goal.returns-in-Some-first_changed-clause-exact
returns-in-Some-first_changed-clause-exact c =
    let p = c.args.program.now in
    let changed = rw (c.keep.ensures, c.kept.ensures) at c.in-Some-first_changed.ensures in (
      (λ e. absurd cc),
      λ fit. absurd (never_changed (storage_of c.args.job.now) p.needs.keep.now p.kept.now c.in-Some-first_changed.address changed fit.kept),
    )

pub returns-in-None-clause-well : goal.returns-in-None-clause-well
returns-in-None-clause-well c =
    let j = c.args.job.now in
    let rows = map in_row c.args.in_flight.now in
    let fit : IsFit j c.args.program.now rows = search rules in
    λ e. starts_well j c.args.program.now rows c.show_proper.ensures fit
