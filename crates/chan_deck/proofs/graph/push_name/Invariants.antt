use Rattle.chan_deck.proofs.Names.{string_bytes, take, ◌++◌, ◌≡◌}
use Rattle.chan_deck.specs.Graph.{escaped}
use Rattle.chan_deck.proofs.graph.push_name.Given as goal

abbrev pub invariant-loop-at : goal.invariant-loop-at
invariant-loop-at l = string_bytes l.out ≡ string_bytes l.initial.out ++ escaped (take l.at l.name)
