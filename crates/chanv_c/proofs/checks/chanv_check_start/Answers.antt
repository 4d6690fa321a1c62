use Rattle.std.proofs.Common.{inr, map, sym, ◌∙◌}
use Rattle.chan_needs.specs.Row.{in_row}
use Rattle.chanv_c.specs.Job.{uncounted}
use Rattle.chan_needs.proofs.Remembering.{remembered_is_fit}
use Rattle.chanv_c.proofs.Refusals.{only_memory}
use Rattle.chanv_c.proofs.Jobs.{are_alike, fits_alike}
use Rattle.chanv_c.proofs.checks.chanv_check_start.Goals as goal

pub returns-in-Ok-Yes-clause-well : goal.returns-in-Ok-Yes-clause-well
returns-in-Ok-Yes-clause-well c = λ _. let is = c.in-Ok-Yes.ensures.answer in record { job = is.job; asked = is.asked; well = is.well c.in-Ok-Yes.field-0-is }

pub returns-in-Ok-No-clause-due : goal.returns-in-Ok-No-clause-due
returns-in-Ok-No-clause-due c = λ was job remembered asked right keeps held grants compatible.
    let rows = map in_row c.args.in_flight.now in
    let is = c.in-Ok-No.ensures.answer in
    let fit = remembered_is_fit was job c.args.program.now rows remembered keeps held grants compatible in
    let alike = are_alike (uncounted c.args.job.now) job is.job asked is.asked in
    let yes = sym c.in-Ok-No.field-0-is ∙ is.due (fits_alike job is.job c.args.program.now rows alike fit) in
    absurd cc

pub returns-in-Err-clause-due : goal.returns-in-Err-clause-due
returns-in-Err-clause-due c = λ was job remembered asked right keeps held grants compatible.
    inr (c.code.ensures ∙ only_memory (uncounted c.args.job.now) c.in-Err.refusal c.in-Err.ensures.refusal right)
