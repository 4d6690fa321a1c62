use Rattle.std.proofs.Common.{inr, rules}
use Rattle.std.proofs.lemmas.Result.{IfOk-weaker}
use Rattle.chan_run.proofs.response.respond_to_text.Goals as goal

pub returns : goal.returns
returns c =
    IfOk-weaker c.respond_to_job.result _ _ (λ r is. inr (record {
      deck = c.in-Ok.deck;
      spelled = c.in-Ok.ensures.spelled;
      job = c.job-job.result;
      of_deck = search rules;
      holds = is;
    })) c.respond_to_job.ensures
