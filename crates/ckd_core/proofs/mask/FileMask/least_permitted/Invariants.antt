use Rattle.std.proofs.Common.{◌≡◌, ◌-◌}
use Rattle.ckd_core.specs.Mask.{first_command, permits_beyond}
use Rattle.ckd_core.proofs.mask.FileMask.least_permitted.Given as goal

-- none of the codes so far is that of such a command
abbrev pub invariant-loop-code : goal.invariant-loop-code
invariant-loop-code l = first_command (permits_beyond l.self l.than) 0 256 ≡ first_command (permits_beyond l.self l.than) l.code (256 - l.code)
