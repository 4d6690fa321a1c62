use Rattle.std.proofs.Common.{ℕ, ◌-◌, ◌≤◌, ◌<◌, ◌≡◌, true}
use Rattle.ccw_core.specs.Areas.{lies_in}
use Rattle.ccw_core.proofs.areas.gap_start.Given as goal

abbrev pub invariant-loop-at : goal.invariant-loop-at
invariant-loop-at l = record { from : l.start ≤ l.at; each : (b : ℕ) → l.start ≤ b → b < l.at → lies_in l.areas b ≡ true }

abbrev pub decreases-loop-at : goal.decreases-loop-at
decreases-loop-at l = l.end - l.at
