use Rattle.std.proofs.Common.{refl}
use Rattle.ccw_core.specs.Ccw.{is_transfer}
use Rattle.ccw_core.proofs.GroupLemmas.{group_of-transfer, transfer-group_of}
use Rattle.ccw_core.proofs.ccw.Ccw.is_transfer.Goals as goal

pub returns-clause-value : goal.returns-clause-value
unfolding is_transfer
returns-clause-value c = rw (← c.self.view_is) refl

pub returns-clause-group : goal.returns-clause-group
returns-clause-group c = rw (← c.self.view_is) (group_of-transfer c.self.inside.command, transfer-group_of c.self.inside.command)
