use Rattle.chan_walk.proofs.Algorithms.Listing.{first_is_verdict}
use Rattle.chan_walk.proofs.laws.first_is_verdict.Goals as goal

pub returns : goal.returns
returns c = first_is_verdict
