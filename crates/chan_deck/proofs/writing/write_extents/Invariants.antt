use Rattle.chan_deck.proofs.Names.{[], extent_of, flat_map, line, take, ◌++◌, ◌∷◌, ◌≡◌}
use Rattle.chan_deck.proofs.writing.write_extents.Given as goal

abbrev pub invariant-loop-pair : goal.invariant-loop-pair
invariant-loop-pair l = l.out.items ≡ l.fn.out.items ++ flat_map (λ e. line (extent_of e) ++ 10 ∷ []) (take l.pair-index l.extents)
