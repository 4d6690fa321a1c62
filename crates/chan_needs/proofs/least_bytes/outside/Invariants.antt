use Rattle.chan_needs.proofs.Names.{has_cylinder, true, ℕ, ◌<◌, ◌≡◌, ◌≤◌}
use Rattle.chan_needs.proofs.least_bytes.outside.Given as goal

abbrev pub invariant-loop-cylinder : goal.invariant-loop-cylinder
invariant-loop-cylinder l = (n : ℕ) → l.first ≤ n → n < l.cylinder → has_cylinder l.extents n ≡ true
