-- The guard: the bytes of storage that a program may not change, as two merged lists of areas.
use Rattle.std.specs.Prelude.{◌≡◌, ℕ, ◌+◌, ◌<◌, ◌≤◌, true, List, ◌⊎◌, ◌↔◌}
use Rattle.ccw_core.specs.declared.areas.Area.{Area}
use Rattle.ccw_core.specs.Areas.{lies_in}
use Rattle.ccw_core.specs.Storage.{Stands}
use Rattle.chan_walk.specs.declared.job.Job.{Job}
use Rattle.chan_walk.specs.declared.place.Place.{Place}
use Rattle.chan_walk.specs.Fault.{IsClear}
use Rattle.chan_walk.specs.Guarded.{IsCcwByte, IsSeekByte, IsMaskByte, IsArgumentByte}
use Rattle.chan_walk.specs.Job.{storage_of}
use Rattle.chan_areas.specs.Merged.{IsMerged}

-- two lists of areas: those of CCWs, and those of arguments of seeks
pub record GuardAreas : Type 0 where
  pub ccws : List Area
  pub arguments : List Area

-- each is the one merged list for its bytes: the guarded bytes of the job's CCWs, and those of its
-- arguments, which are those of seeks and of Set File Mask
pub record Guards (j : Job) (g : GuardAreas) : Type 0 where
  pub ccws_merged : IsMerged g.ccws
  pub ccws : (b : ℕ) → (lies_in g.ccws b ≡ true) ↔ IsCcwByte j b
  pub arguments_merged : IsMerged g.arguments
  pub arguments : (b : ℕ) → (lies_in g.arguments b ≡ true) ↔ IsArgumentByte j b

-- ---- place by place

-- the byte at b belongs to the CCW that stands at a place
pub record IsCcwByteOf (j : Job) (p : Place) (b : ℕ) : Type 0 where
  pub stands : Stands (storage_of j) p.address
  pub from : p.address ≤ b
  pub below : b < p.address + 8

-- the byte at b belongs to the argument of a seek that begins at a place and has no own fault
abbrev pub IsSeekByteOf : Job → Place → ℕ → Type 0
IsSeekByteOf j p b = IsClear j p × IsSeekByte (storage_of j) p b

-- the byte at b is set by a Set File Mask that begins at a place and has no own fault
abbrev pub IsMaskByteOf : Job → Place → ℕ → Type 0
IsMaskByteOf j p b = IsClear j p × IsMaskByte (storage_of j) p b

-- the byte at b is an argument of a place that has no own fault
abbrev pub IsArgumentByteOf : Job → Place → ℕ → Type 0
IsArgumentByteOf j p b = IsSeekByteOf j p b ⊎ IsMaskByteOf j p b

-- the new areas have the bytes of the old ones, those for which P holds, and no others
abbrev pub AddsBytes : List Area → List Area → (ℕ → Type 0) → Type 0
AddsBytes old new P = (b : ℕ) → (lies_in new b ≡ true) ↔ ((lies_in old b ≡ true) ⊎ P b)

-- the area of one byte
abbrev pub byte_area : ℕ → Area
byte_area a = record { start = a; len = 1 }
