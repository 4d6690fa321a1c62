-- Areas clipped to a length of storage.
use Rattle.std.specs.Prelude.{ℕ, ◌-◌, min}
use Rattle.ccw_core.specs.declared.areas.Area.{Area}

-- the part of an area that lies in n bytes of storage; empty and at their end for one that begins
-- past them
abbrev pub clip : ℕ → Area → Area
clip n a = record { start = min a.start n; len = min a.len (n - a.start) }
