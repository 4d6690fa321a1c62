use Rattle.chan_walk.proofs.Names.{rules}
use Rattle.chan_walk.proofs.open_job.OpenJob.job.Goals as goal

pub returns-clause-open : goal.returns-clause-open
returns-clause-open c j h = search rules

pub returns-clause-verdict : goal.returns-clause-verdict
returns-clause-verdict c j h = (c.open_job_is_open.ensures j _ (returns-clause-open c j h)).1
