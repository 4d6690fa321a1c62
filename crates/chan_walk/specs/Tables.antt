-- Parts of the table of own faults, as the code looks at them.
use Rattle.std.specs.Prelude.{ℕ, Bool, List, ◌++◌, Option}
use Rattle.ccw_core.specs.Ccw.{Fields}
use Rattle.chan_walk.specs.declared.job.Job.{Job}
use Rattle.chan_walk.specs.declared.place.Place.{Place}
use Rattle.chan_walk.specs.declared.reason.Reason.{Reason}
use Rattle.chan_walk.specs.Fault.{mask_faults, seek_faults}

-- what is wrong with the argument of the seek or of the Set File Mask that begins there, where x is
-- a seek's
abbrev pub operand_faults : Job → Place → Fields → Option (List ℕ) → List (Bool × Reason)
operand_faults j p c x = seek_faults j p c x ++ mask_faults j p c
