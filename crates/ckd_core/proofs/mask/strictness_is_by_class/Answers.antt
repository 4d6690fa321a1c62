use Rattle.ckd_core.proofs.LevelLemmas.{strictness_is_by_class}
use Rattle.ckd_core.proofs.mask.strictness_is_by_class.Goals as goal

pub returns : goal.returns
returns c = strictness_is_by_class
