use Rattle.chan_deck.proofs.Names.{[], flat_map, keep_line, take, ◌++◌, ◌∷◌, ◌≡◌}
use Rattle.chan_deck.proofs.needs_lines.write_kept.Given as goal

abbrev pub invariant-loop-area : goal.invariant-loop-area
invariant-loop-area l = l.out.items ≡ l.fn.out.items ++ flat_map (λ a. keep_line a ++ 10 ∷ []) (take l.area-index l.areas)
