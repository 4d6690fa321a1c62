use Rattle.chan_walk.proofs.Names.{MarksAgree, places_of_looks, take}
use Rattle.chan_walk.proofs.marks.marks_of_looks.Given as goal

abbrev pub invariant-loop-look : goal.invariant-loop-look
invariant-loop-look l = MarksAgree l.marks (places_of_looks (take l.look-index l.looks))
