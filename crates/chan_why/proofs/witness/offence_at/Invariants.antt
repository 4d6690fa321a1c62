use Rattle.chan_why.proofs.Names.{◌≡◌}
use Rattle.std.proofs.Common.{drop}
use Rattle.chan_why.specs.Witness.{offence_at}
use Rattle.chan_why.proofs.witness.offence_at.Given as goal

abbrev pub invariant-loop-offence : goal.invariant-loop-offence
invariant-loop-offence l = offence_at l.address (drop l.offence-index l.offences) ≡ offence_at l.address l.offences
