-- Why following trails ends: each step leaves less to do.
use Rattle.std.specs.Prelude.{ℕ, ◌+◌, ◌-◌, List, length}
use Rattle.std.specs.List.{sum_by}
use Rattle.chan_find.specs.declared.trails.Covered.{Covered}

-- how far the bytes of a table of marks are below 256: each new mark makes a byte greater
abbrev pub room_left : List ℕ → ℕ
room_left bytes = sum_by (λ b. 256 - b) bytes

-- how much is left to do: marks that may still come, and places to step on from
abbrev pub work_left : Covered → ℕ
work_left c = room_left c.marks.bytes.items + length c.pending.items
