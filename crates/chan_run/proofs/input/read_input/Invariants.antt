use Rattle.std.proofs.Common.{false, length, ◌-◌, ◌+◌, ◌≡◌, ◌≤◌}
use Rattle.std.specs.Io.KnownBytes.{Consumes}
use Rattle.chan_run.proofs.input.read_input.Given as goal

abbrev pub invariant-loop-count : goal.invariant-loop-count
invariant-loop-count g l = record {
  sound : l.from.failed ≡ false;
  few : length l.text.items ≤ l.limit;
  size : length l.chunk ≡ 8192;
  taken : Consumes (g.R.Read.remaining l.initial.from.device) (g.R.Read.remaining l.from.device) l.text.items;
}

abbrev pub decreases-loop-count : goal.decreases-loop-count
decreases-loop-count g l = (l.limit + 1) - length l.text.items
