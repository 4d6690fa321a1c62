-- What the survey says of the job is said of what C asks about.
use Rattle.std.proofs.Common.{sym, subst}
use Rattle.chan_walk.specs.declared.verdict.Verdict.{Verdict}
use Rattle.chan_walk.specs.Answers.{IsAnswer}
use Rattle.chan_why.specs.Witness.{IsWitnessOf}
use Rattle.chanv_c.proofs.why.explained.Goals as goal

pub witness_from-requires : goal.witness_from-requires
witness_from-requires c = (c.job.result, c.in_ok-survey.ensures.survey)

pub returns-clause-answer : goal.returns-clause-answer
returns-clause-answer c =
    let j = c.job.result in
    let w = c.in_ok-witness.witness in
    let s = c.in_ok-survey.ensures.survey in
    let same = sym c.verdict.ensures in
    record {
      job = j;
      asked = c.job.ensures;
      answer = subst (λ (v : Verdict). IsAnswer j v) same c.in_ok-survey.ensures.answer;
      shows = subst (λ (v : Verdict). IsWitnessOf j v w) same (c.in_ok-witness.ensures j s);
    }
