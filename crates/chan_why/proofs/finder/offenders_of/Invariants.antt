use Rattle.chan_why.proofs.Names.{IsIndex, IsOfKind}
use Rattle.chan_why.proofs.finder.offenders_of.Given as goal

abbrev pub invariant-loop-offence : goal.invariant-loop-offence
invariant-loop-offence l = IsIndex (IsOfKind l.survey.looks l.offences l.offence-index) l.first
