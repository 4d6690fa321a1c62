use Rattle.chan_needs.proofs.Names.{bytes_held}
use Rattle.chan_needs.proofs.Kept.{IsLeft}
use Rattle.chan_needs.proofs.remembered.first_changed.Given as goal

abbrev pub invariant-loop-area : goal.invariant-loop-area
invariant-loop-area l = IsLeft (bytes_held l.storage) l.areas l.kept l.area-index l.rest
