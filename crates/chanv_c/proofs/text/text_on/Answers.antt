-- What the survey says of the job, with the verdict that is told.
use Rattle.std.proofs.Common.{sym, subst}
use Rattle.chan_walk.specs.declared.walk_error.WalkError.TheVariants as walk
use Rattle.chan_walk.specs.declared.verdict.Verdict.{Verdict}
use Rattle.chan_walk.specs.Answers.{IsAnswer}
use Rattle.chan_why.specs.Witness.{IsWitnessOf}
use Rattle.chanv_c.specs.Answers.{HasTooMany}
use Rattle.chanv_c.proofs.Refusals.{walk_refused}
use Rattle.chanv_c.proofs.text.text_on.Goals as goal

pub witness_from-requires : goal.witness_from-requires
witness_from-requires c = (c.job-job.result, c.in_ok-survey.ensures.survey)

pub returns-in_err-text-clause-refusal : goal.returns-in_err-text-clause-refusal
returns-in_err-text-clause-refusal c =
    walk_refused (HasTooMany c.args.asked.now) c.args.asked.now walk.Memory c.from_residual-in_err-text.result c.in_ok-ready.ensures.right
    (λ e. absurd cc) c.from_residual-in_err-text.ensures.1

pub returns-clause-answer : goal.returns-clause-answer
returns-clause-answer c =
    let j = c.job-job.result in
    let w = c.in_ok-witness.witness in
    let s = c.in_ok-survey.ensures.survey in
    let same = sym c.verdict.ensures in (
      j,
      c.job-job.ensures,
      record {
        answer = subst (λ (v : Verdict). IsAnswer j v) same c.in_ok-survey.ensures.answer;
        offences = c.in_ok-survey.survey.offences;
        offending = s.offences;
        first = c.verdict.ensures;
        witness = w;
        shows = subst (λ (v : Verdict). IsWitnessOf j v w) same (c.in_ok-witness.ensures j s);
        text = c.in_ok-text.ensures;
      },
    )
