use Rattle.chan_needs.proofs.Needing.{no_job_will_do}
use Rattle.chan_needs.proofs.laws.no_job_will_do.Goals as goal

pub returns : goal.returns
returns c = no_job_will_do
