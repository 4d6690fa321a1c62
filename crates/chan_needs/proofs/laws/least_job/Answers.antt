use Rattle.chan_needs.proofs.Needing.{least_job}
use Rattle.chan_needs.proofs.laws.least_job.Goals as goal

pub returns : goal.returns
returns c = least_job
