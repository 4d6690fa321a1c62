use Rattle.std.proofs.lemmas.Result.{IfOk-weaker}
use Rattle.chan_run.proofs.Endings.{judges_itself, judges_open}
use Rattle.chan_run.proofs.response.respond_to_job.Goals as goal

pub returns-then-manner_of : goal.returns-then-manner_of
returns-then-manner_of c =
    let open_job = c.job.ensures.open c.args.job.now c.in_ok-open.ensures in
    let judged = judges_open c.args.action c.args.job.now c.job.result (rw c.manner_of.ensures at c.if-manner_of.true) open_job in
    IfOk-weaker c.respond_to_judged_job.result _ _ (λ r is. (c.job.result, judged, is)) c.respond_to_judged_job.ensures

pub returns : goal.returns
returns c =
    let judged = judges_itself c.args.action c.args.job.now (rw c.manner_of.ensures at c.if-manner_of.false) in
    IfOk-weaker c.respond_to_judged_job-2.result _ _ (λ r is. (c.args.job.now, judged, is)) c.respond_to_judged_job-2.ensures
