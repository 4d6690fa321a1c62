-- What a refusal's number says.
use Rattle.chanv_c.specs.Answers.{refusal_extent}
use Rattle.chanv_c.specs.Job.{uncounted}
use Rattle.chanv_c.proofs.Refusals.{refusal_number}
use Rattle.chanv_c.proofs.prefix.chanv_make_prefix.Goals as goal

pub returns-in-Err-clause-number : goal.returns-in-Err-clause-number
returns-in-Err-clause-number c = (
  refusal_extent c.in-Err.refusal,
  rw c.code.ensures (refusal_number ⊥ (uncounted c.args.job.now) c.in-Err.refusal c.in-Err.ensures.refusal),
)
