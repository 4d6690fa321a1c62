use Rattle.chan_needs.proofs.Names.{false, has_cylinder, IsLeastOrNone, map, pair, take, true, ◌≡◌}
use Rattle.chan_needs.proofs.least_bytes.least_outside.Given as goal

abbrev pub invariant-loop-run : goal.invariant-loop-run
invariant-loop-run l = IsLeastOrNone (λ n. (has_cylinder (map pair (take l.run-index l.runs)) n ≡ true) × (has_cylinder l.extents n ≡ false)) l.least
