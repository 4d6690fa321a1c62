use Rattle.chan_walk.proofs.Names.{rules}
use Rattle.chan_walk.proofs.Theory.CheckCases.{check-transfer}
use Rattle.chan_walk.proofs.fault.checked_transfer.Goals as goal

pub returns-then-not-visit : goal.returns-then-not-visit
returns-then-not-visit c = search (rules, check-transfer)

pub returns : goal.returns
returns c = search (rules, check-transfer)
