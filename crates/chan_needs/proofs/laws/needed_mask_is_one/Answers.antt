use Rattle.chan_needs.proofs.Masking.{needed_mask_is_one}
use Rattle.chan_needs.proofs.laws.needed_mask_is_one.Goals as goal

pub returns : goal.returns
returns c = needed_mask_is_one
