use Rattle.chan_needs.proofs.Names.{bytes_held}
use Rattle.chan_needs.proofs.Copied.{AreCopied}
use Rattle.chan_needs.proofs.remembered.copy_kept.Given as goal

abbrev pub invariant-loop-area : goal.invariant-loop-area
invariant-loop-area l = AreCopied (bytes_held l.storage) l.areas l.area-index l.initial.into l.at l.into
