use Rattle.chan_run.proofs.judging.run.Goals as goal

pub returns-in-Ok-clause-answer : goal.returns-in-Ok-clause-answer
returns-in-Ok-clause-answer g c =
    rw c.run_result.ensures (c.respond_to_input-response.result, c.respond_to_input-response.ensures.answer, c.in-Ok.ensures.put)

pub returns-clause-answer : goal.returns-clause-answer
returns-clause-answer g c =
    (c.respond_to_input-response.result, c.respond_to_input-response.ensures.answer, c.in-Err.ensures.broken)
