use Rattle.chan_needs.proofs.Names.{EndsBelow, length, ◌+◌, ◌-◌, ◌<◌, ◌≤◌}
use Rattle.std.specs.List.{HoldsAt}
use Rattle.chan_needs.proofs.least_bytes.skip_ended.Given as goal

abbrev pub invariant-loop-step : goal.invariant-loop-step
invariant-loop-step l = (l.from ≤ l.at) × (l.at < length l.areas) × (0 < l.step) × HoldsAt (EndsBelow (l.address + 1)) l.areas l.at

abbrev pub decreases-loop-step : goal.decreases-loop-step
decreases-loop-step l = length l.areas - l.at
