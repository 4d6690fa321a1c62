use Rattle.chan_needs.proofs.Names.{IsLeastOrNone, lies_in, take, true, ◌≡◌}
use Rattle.chan_needs.proofs.least_bytes.least_shared.Given as goal

abbrev pub invariant-loop-area : goal.invariant-loop-area
invariant-loop-area l = IsLeastOrNone (λ b. (lies_in (take l.area-index l.one) b ≡ true) × (lies_in l.other b ≡ true)) l.least
