use Rattle.std.proofs.Common.{◌≡◌, take}
use Rattle.chan_run.specs.OneCcw.{without_blanks}
use Rattle.chan_run.proofs.named_ccw.without_blanks.Given as goal

abbrev pub invariant-loop-byte : goal.invariant-loop-byte
invariant-loop-byte l = l.plain.items ≡ without_blanks (take l.byte-index l.text)
