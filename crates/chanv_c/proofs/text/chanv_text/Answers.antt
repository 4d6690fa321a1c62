-- The answer is that of the text, and a fault is told by its number.
use Rattle.std.proofs.Common.{rules}
use Rattle.chanv_c.specs.Answers.{HasTooMany, refusal_extent}
use Rattle.chanv_c.proofs.Refusals.{refusal_number}
use Rattle.chanv_c.proofs.text.chanv_text.Goals as goal

pub returns-clause-written : goal.returns-clause-written
returns-clause-written c = λ few. (c.in-Ok.found, c.in-Ok.ensures.answer, c.code_of.ensures, search rules)

pub returns-then-buffer-text-clause-room : goal.returns-then-buffer-text-clause-room
returns-then-buffer-text-clause-room c = λ is. (c.in-Ok.found, c.in-Ok.ensures.answer, search rules)

pub returns-in-Err-clause-number : goal.returns-in-Err-clause-number
returns-in-Err-clause-number c = (
  refusal_extent c.in-Err.refusal,
  rw c.code.ensures (refusal_number (HasTooMany c.args.job.now) c.args.job.now c.in-Err.refusal c.in-Err.ensures.refusal),
)
