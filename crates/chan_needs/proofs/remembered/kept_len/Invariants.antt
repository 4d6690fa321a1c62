-- So many bytes the areas so far have.
use Rattle.chan_needs.proofs.Names.{take, total_len, ◌≡◌}
use Rattle.chan_needs.proofs.remembered.kept_len.Given as goal

abbrev pub invariant-loop-area : goal.invariant-loop-area
invariant-loop-area l = l.len ≡ total_len (take l.area-index l.areas)
