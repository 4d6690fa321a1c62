-- No write has failed so far.
use Rattle.std.proofs.Common.{◌≡◌, false}
use Rattle.chan_run.proofs.meanings.list_words.Given as goal

abbrev pub invariant-loop-row : goal.invariant-loop-row
invariant-loop-row g l = l.to.failed ≡ false
