use Rattle.chan_needs.proofs.Needing.{needed_mask_is_enough}
use Rattle.chan_needs.proofs.laws.needed_mask_is_enough.Goals as goal

pub returns : goal.returns
returns c = needed_mask_is_enough
