use Rattle.chan_deck.proofs.Names.{in_six_digits, take, ◌≡◌}
use Rattle.chan_deck.proofs.needs_lines.in_six_digits.Given as goal

abbrev pub invariant-loop-area : goal.invariant-loop-area
invariant-loop-area l = l.parts.items ≡ in_six_digits (take l.area-index l.areas)
