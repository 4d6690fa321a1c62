use Rattle.chan_needs.proofs.Names.{All, AreLooksOfYes, EndsBelow, HoldBytes, Job, places_of_looks, SeeksCylinder, take, ◌+◌, ◌^◌}
use Rattle.chan_needs.proofs.needs.sought.Given as goal

abbrev pub invariant-loop-look : goal.invariant-loop-look
invariant-loop-look l = record {
  low : All (EndsBelow (2 ^ 16 + 1)) l.cylinders.items;
  bytes : (j : Job) → AreLooksOfYes j l.looks → HoldBytes (SeeksCylinder j) (places_of_looks (take l.look-index l.looks)) l.cylinders.items;
}
