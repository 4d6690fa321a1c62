use Rattle.std.proofs.Common.{rules}
use Rattle.ckd_core.proofs.LevelLemmas.{is_at_least-levels}
use Rattle.ckd_core.proofs.mask.FileMask.at_least.Goals as goal

pub returns-then-least-levels : goal.returns-then-least-levels
returns-then-least-levels c = search (rules, is_at_least-levels)

pub returns-else-least-levels : goal.returns-else-least-levels
returns-else-least-levels c = search (rules, is_at_least-levels)
