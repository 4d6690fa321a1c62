use Rattle.chan_needs.proofs.Names.{AreBounds, AreLooksOfYes, Job, places_of_looks, take}
use Rattle.chan_needs.proofs.Demanding.{ServesEach}
use Rattle.chan_needs.proofs.needed_mask.needed_mask.Given as goal

abbrev pub invariant-loop-look : goal.invariant-loop-look
invariant-loop-look l =
    (j : Job) → AreLooksOfYes j l.looks → AreBounds (ServesEach j (places_of_looks (take l.look-index l.looks))) l.levels.writes l.levels.seeks
