use Rattle.chan_deck.proofs.Names.{[], fetch, flat_map, line, take, ◌++◌, ◌∷◌, ◌≡◌}
use Rattle.chan_deck.proofs.writing.write_fetch.Given as goal

abbrev pub invariant-loop-area : goal.invariant-loop-area
invariant-loop-area l = l.out.items ≡ l.fn.out.items ++ flat_map (λ a. line (fetch a) ++ 10 ∷ []) (take l.area-index l.areas)
