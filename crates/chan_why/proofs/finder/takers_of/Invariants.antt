use Rattle.chan_why.proofs.Names.{IsIndex, TakesByte}
use Rattle.chan_why.proofs.finder.takers_of.Given as goal

abbrev pub invariant-loop-at : goal.invariant-loop-at
invariant-loop-at l = IsIndex (TakesByte l.looks l.at) l.first
