use Rattle.std.proofs.Common.{◌≡◌, take}
use Rattle.chan_run.specs.Texts.{concatenated}
use Rattle.chan_run.proofs.texts.line_of.Given as goal

abbrev pub invariant-loop-text : goal.invariant-loop-text
invariant-loop-text l = l.line.bytes ≡ concatenated (take l.text-index l.texts)
