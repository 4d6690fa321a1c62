use Rattle.chan_needs.proofs.Names.{length, ◌+◌, ◌-◌}
use Rattle.chan_needs.proofs.Holding.{AreAhead}
use Rattle.chan_needs.proofs.least_bytes.least_of_merged.Given as goal

abbrev pub invariant-loop-at : goal.invariant-loop-at
invariant-loop-at l = AreAhead l.one l.other l.at l.with

abbrev pub decreases-loop-at : goal.decreases-loop-at
decreases-loop-at l = (length l.one - l.at) + (length l.other - l.with)
