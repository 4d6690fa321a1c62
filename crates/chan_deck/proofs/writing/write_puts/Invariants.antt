use Rattle.chan_deck.proofs.Names.{length, line, map, puts, STORAGE_LIMIT, text, ◌++◌, ◌+◌, ◌/◌, ◌≡◌, ◌≤◌}
use Rattle.chan_deck.proofs.writing.write_puts.Given as goal

-- what is written and what is left to write are all
abbrev pub invariant-loop-rest : goal.invariant-loop-rest
invariant-loop-rest l = record {
  told :
      l.out.items ++ text (map line (puts (length l.rest / 8) l.address l.rest))
      ≡ l.fn.out.items ++ text (map line (puts (length l.bytes / 8) l.at l.bytes));
  fits : l.address + length l.rest ≤ STORAGE_LIMIT;
}

abbrev pub decreases-loop-rest : goal.decreases-loop-rest
decreases-loop-rest l = length l.rest
