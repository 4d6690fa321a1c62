use Rattle.chan_walk.proofs.Names.{AreClear, AreLooks, AreReached, ChangesGuarded, HasOffences, Job, places_of_looks, take}
use Rattle.chan_walk.specs.Guard.{Guards}
use Rattle.chan_walk.proofs.offence.changes_of.Given as goal

abbrev pub invariant-loop-look : goal.invariant-loop-look
invariant-loop-look l =
    (j : Job) → AreLooks j l.looks → AreReached j (places_of_looks l.looks) → Guards j l.guard
    → AreClear j → HasOffences (ChangesGuarded j) (places_of_looks (take l.look-index l.looks)) l.changes.items
