use Rattle.std.proofs.Common.{rules}
use Rattle.ckd_core.proofs.LevelLemmas.{mask_of-levels}
use Rattle.ckd_core.proofs.mask.FileMask.of_levels.Goals as goal

pub invariant_of-result : goal.invariant_of-result
invariant_of-result c = let m = mask_of-levels c.args.levels.writes c.args.levels.seeks c.args.levels.few_writes c.args.levels.few_seeks in search rules
