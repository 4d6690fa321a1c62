use Rattle.chan_needs.proofs.Names.{false, IsLeastOrNone, lies_in, take, true, ◌≡◌}
use Rattle.chan_needs.proofs.least_bytes.least_beyond.Given as goal

abbrev pub invariant-loop-area : goal.invariant-loop-area
invariant-loop-area l = IsLeastOrNone (λ b. (lies_in (take l.area-index l.areas) b ≡ true) × (lies_in l.lent b ≡ false)) l.least
