-- The pairs so far are those of the extents so far.
use Rattle.chan_needs.proofs.Names.{map, pair, take, ◌≡◌}
use Rattle.chan_needs.proofs.layout.pairs_of.Given as goal

abbrev pub invariant-loop-extent : goal.invariant-loop-extent
invariant-loop-extent l = l.pairs.items ≡ map pair (take l.extent-index l.extents)
