use Rattle.chan_walk.proofs.Algorithms.Opened.{open_job_is_open}
use Rattle.chan_walk.proofs.laws.open_job_is_open.Goals as goal

pub returns : goal.returns
returns c = open_job_is_open
