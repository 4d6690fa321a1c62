use Rattle.chan_deck.proofs.Names.{[], flat_map, line, store, take, ◌++◌, ◌∷◌, ◌≡◌}
use Rattle.chan_deck.proofs.writing.write_store.Given as goal

abbrev pub invariant-loop-area : goal.invariant-loop-area
invariant-loop-area l = l.out.items ≡ l.fn.out.items ++ flat_map (λ a. line (store a) ++ 10 ∷ []) (take l.area-index l.areas)
