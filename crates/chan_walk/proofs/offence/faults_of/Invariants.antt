use Rattle.chan_walk.proofs.Names.{AreLooks, HasOffences, HasOwnFault, Job, places_of_looks, take}
use Rattle.chan_walk.proofs.offence.faults_of.Given as goal

abbrev pub invariant-loop-look : goal.invariant-loop-look
invariant-loop-look l = (j : Job) → AreLooks j l.looks → HasOffences (HasOwnFault j) (places_of_looks (take l.look-index l.looks)) l.faults.items
