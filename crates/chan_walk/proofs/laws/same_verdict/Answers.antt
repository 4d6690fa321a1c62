use Rattle.chan_walk.proofs.Algorithms.VerdictBytes.{same_verdict}
use Rattle.chan_walk.proofs.laws.same_verdict.Goals as goal

pub returns : goal.returns
returns c = same_verdict
