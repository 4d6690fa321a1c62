use Rattle.chan_deck.proofs.Names.{string_bytes}
use Rattle.chan_deck.proofs.ExplanationLemmas.{HasRows}
use Rattle.chan_deck.proofs.explanation.push_path.Given as goal

abbrev pub invariant-loop-at : goal.invariant-loop-at
invariant-loop-at l = HasRows l.job l.path l.at (string_bytes l.fn.out) (string_bytes l.out)
