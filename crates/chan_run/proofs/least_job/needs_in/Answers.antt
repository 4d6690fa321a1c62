use Rattle.std.proofs.Common.{rules}
use Rattle.chan_deck.proofs.PartLemmas.{on_ok}
use Rattle.chan_run.proofs.least_job.needs_in.Goals as goal

pub returns-clause-some : goal.returns-clause-some
returns-clause-some c = on_ok c.image_needs.result (c.job_at-job.result, c.job_at-job.ensures c.args.image.now (search rules))
