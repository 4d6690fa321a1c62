-- What a refusal's number says.
use Rattle.chanv_c.specs.Answers.{HasTooMany}
use Rattle.chanv_c.proofs.Refusals.{refusal_number}
use Rattle.chanv_c.proofs.verify.chanv_verify.Goals as goal

pub returns-in-Err-clause-number : goal.returns-in-Err-clause-number
returns-in-Err-clause-number c =
    rw (c.code.ensures, c.extent-out.ensures) (refusal_number (HasTooMany c.args.job.now) c.args.job.now c.in-Err.refusal c.in-Err.ensures.refusal)
