use Rattle.chan_needs.proofs.Remembering.{fit_is_asked}
use Rattle.chan_needs.proofs.laws.fit_is_asked.Goals as goal

pub returns : goal.returns
returns c = fit_is_asked
