use Rattle.chan_walk.proofs.Algorithms.FaultyStart.{faulty_start_is_all}
use Rattle.chan_walk.proofs.laws.faulty_start_is_all.Goals as goal

pub returns : goal.returns
returns c = faulty_start_is_all
