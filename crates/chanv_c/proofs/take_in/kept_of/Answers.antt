-- What a first look finds is said of what C asks about.
use Rattle.std.proofs.Common.{ap, Err, sym, subst, ◌∙◌}
use Rattle.chan_walk.specs.declared.verdict.Verdict.TheVariants.{Yes, No}
use Rattle.chan_walk.specs.Places.{HasMoreThan}
use Rattle.chanv_c.specs.Needs.{HasTooManyOpenly}
use Rattle.chanv_c.proofs.Refusals.{walk_refused}
use Rattle.chanv_c.proofs.Copies.{judged_openly}
use Rattle.chanv_c.proofs.take_in.kept_of.Goals as goal

pub returns-in_err-survey-clause-refusal : goal.returns-in_err-survey-clause-refusal
returns-in_err-survey-clause-refusal c =
    let asked = c.args.asked.now in
    let opened = c.job-opened.result in
    let opens = c.job-opened.ensures.«open» c.job-job.result c.in_ok-open.ensures in
    walk_refused (HasTooManyOpenly asked) asked c.in_err-survey.field-0.0 c.from_residual-in_err-survey.result c.in_ok-ready.ensures.right
    (λ many. record {
      opened = opened;
      is_open = record { job = c.job-job.result; asked = c.job-job.ensures; is_open = opens };
      many = subst (HasMoreThan opened) (opens.limit ∙ c.job-job.ensures.limit) (c.in_err-survey.ensures.many (ap Err many));
    })
    c.from_residual-in_err-survey.ensures.1

pub returns-in-Yes-clause-answer : goal.returns-in-Yes-clause-answer
returns-in-Yes-clause-answer c =
    let job = c.job-job.result in
    let opens = c.job-opened.ensures.«open» job c.in_ok-open.ensures in
    record {
      judged = judged_openly c.args.asked.now c.job-opened.result Yes _ (record { job = job; asked = c.job-job.ensures; is_open = opens })
          (c.job-opened.ensures.verdict job c.in_ok-open.ensures) (sym c.in-Yes.is ∙ c.verdict.ensures) c.in_ok-survey.ensures.answer;
      keep = c.in_ok-kept_from-in-Yes.ensures job c.job-opened.result c.in_ok-survey.ensures.survey (sym c.verdict.ensures ∙ c.in-Yes.is) opens.program;
    }

pub returns-clause-answer : goal.returns-clause-answer
returns-clause-answer c =
    let job = c.job-job.result in
    let opens = c.job-opened.ensures.«open» job c.in_ok-open.ensures in
    judged_openly c.args.asked.now c.job-opened.result (No c.in-No.address c.in-No.reason) _ (record { job = job; asked = c.job-job.ensures; is_open = opens })
    (c.job-opened.ensures.verdict job c.in_ok-open.ensures) (sym c.in-No.is ∙ c.verdict.ensures) c.in_ok-survey.ensures.answer
