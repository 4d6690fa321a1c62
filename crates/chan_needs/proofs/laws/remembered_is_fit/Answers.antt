use Rattle.chan_needs.proofs.Remembering.{remembered_is_fit}
use Rattle.chan_needs.proofs.laws.remembered_is_fit.Goals as goal

pub returns : goal.returns
returns c = remembered_is_fit
