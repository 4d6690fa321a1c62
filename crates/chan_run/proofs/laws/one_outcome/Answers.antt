use Rattle.chan_run.proofs.OneOutcome.{one_outcome}
use Rattle.chan_run.proofs.laws.one_outcome.Goals as goal

pub returns : goal.returns
returns c = one_outcome
