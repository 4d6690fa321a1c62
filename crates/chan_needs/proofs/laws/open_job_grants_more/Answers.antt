use Rattle.chan_needs.proofs.Needing.{opens}
use Rattle.chan_needs.proofs.laws.open_job_grants_more.Goals as goal

pub returns : goal.returns
returns c = opens
