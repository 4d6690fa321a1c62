use Rattle.chan_needs.proofs.Names.{bytes_held, HoldsByte, ℕ, ◌<◌}
use Rattle.chan_needs.proofs.remembered.first_changed_in.Given as goal

abbrev pub invariant-loop-i : goal.invariant-loop-i
invariant-loop-i l = (k : ℕ) → k < l.i → HoldsByte (bytes_held l.storage) l.area l.kept k
