use Rattle.std.proofs.Common.{◌∙◌, ◌≡◌, rules, string_bytes, sym}
use Rattle.std.proofs.lemmas.Result.{err_from_is_err_and}
use Rattle.chan_walk.specs.Answers.{IsAnswer}
use Rattle.chan_walk.specs.Places.{HasMoreThan}
use Rattle.chan_walk.specs.Offence.{first_verdict}
use Rattle.chan_walk.specs.declared.verdict.Verdict.TheVariants.{No}
use Rattle.chan_run.specs.NoJob.{IsExplainedOpenly}
use Rattle.chan_run.proofs.LeastLemmas.{of_open_job}
use Rattle.chan_run.proofs.least_job.image_needs.Goals as goal

pub returns-in-Err-TooManyPlaces-clause-err : goal.returns-in-Err-TooManyPlaces-clause-err
returns-in-Err-TooManyPlaces-clause-err c = λ o image there.
    of_open_job o image (λ k. HasMoreThan k k.limit) c.args.job.now c.job-open_job.result there
    (c.job-open_job.ensures.open c.args.job.now c.in_ok-open.ensures) (search rules)

pub returns-in-No-clause-err : goal.returns-in-No-clause-err
returns-in-No-clause-err c = λ o image there.
    let no : first_verdict c.in-Ok.survey.offences ≡ No c.in-No.address c.in-No.reason = sym c.verdict.ensures ∙ c.in-No.is in
    of_open_job o image (λ k. IsAnswer k (No c.in-No.address c.in-No.reason) × IsExplainedOpenly k (string_bytes c.in_ok-open_explanation-in-No.field-0))
    c.args.job.now c.job-open_job.result there
    (c.job-open_job.ensures.open c.args.job.now c.in_ok-open.ensures)
    (rw no at c.in-Ok.ensures.answer, c.in_ok-open_explanation-in-No.ensures)

pub returns-in_err-open_explanation-in-No-clause-err : goal.returns-in_err-open_explanation-in-No-clause-err
returns-in_err-open_explanation-in-No-clause-err c =
    let p = err_from_is_err_and c.from_residual-in_err-open_explanation-in-No.result c.from_residual-in_err-open_explanation-in-No.ensures.1 in
    rw (p.1, p.2) (λ o image there. tt)
