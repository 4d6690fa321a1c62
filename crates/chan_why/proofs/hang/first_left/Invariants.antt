use Rattle.chan_why.proofs.Names.{IsFirstPlace, IsLeftUnmarked, places_of_looks}
use Rattle.chan_why.proofs.hang.first_left.Given as goal

abbrev pub invariant-loop-at : goal.invariant-loop-at
invariant-loop-at l = IsFirstPlace (IsLeftUnmarked (places_of_looks l.looks) l.marks l.at) l.first
