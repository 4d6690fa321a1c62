-- The order in which own faults are tried is that of their numbers.
use Rattle.std.specs.Prelude.{◌≡◌, ℕ, Bool, List, [], ◌++◌, map, length, Option, if◌then◌else◌}
use Rattle.std.specs.List.Sorted.{IsStrictlyIncreasing}
use Rattle.ccw_core.specs.Ccw.{Fields, is_transfer}
use Rattle.chan_walk.specs.declared.job.Job.{Job}
use Rattle.chan_walk.specs.declared.place.Place.{Place}
use Rattle.chan_walk.specs.declared.reason.Reason.{Reason}
use Rattle.chan_walk.specs.ProgramCheck.{first_reason, table_of_every_ccw, table_of_non_transfer}
use Rattle.chan_walk.specs.Fault.{table_of_own, fault_with}
use Rattle.chan_walk.specs.Job.{storage_of}
use Rattle.chan_walk.specs.Place.{ccw_of}
use Rattle.chan_walk.specs.Reason.{number_of}

-- the whole table of own faults: all that is looked at in the CCW c at a place, where x is the
-- argument of a seek there
abbrev pub table_of_faults : Job → Place → Fields → Option (List ℕ) → List (Bool × Reason)
table_of_faults j p c x =
    table_of_every_ccw (length (storage_of j)) p c
    ++ (if is_transfer c then []
    else table_of_non_transfer (length (storage_of j)) p c ++ table_of_own j p c x)

-- the numbers of a table's reasons, in order
abbrev pub numbers_of : List (Bool × Reason) → List ℕ
numbers_of ts = map (λ t. number_of t.1) ts

-- the own fault is the first of the whole table that applies, and the numbers increase along it: so
-- it is the least that applies
abbrev pub NumbersIncrease : Type 0
NumbersIncrease = (j : Job) (p : Place) (x : Option (List ℕ)) →
    (fault_with j p x ≡ first_reason (table_of_faults j p (ccw_of j p) x))
    × IsStrictlyIncreasing (numbers_of (table_of_faults j p (ccw_of j p) x))
