-- A table that answers for a cylinder at once.
use Rattle.std.specs.Prelude.{◌≡◌, ℕ, ◌<◌, ◌≤◌, Bool, false, true, List, slice_index_or}
use Rattle.ckd_core.specs.Extents.{has_cylinder, AreExtents}
use Rattle.ckd_core.specs.declared.device.TheConstants.{CYLINDERS}

-- the table says of each cylinder of a device whether it lies in some extent
abbrev pub IsHeldTable : List (ℕ × ℕ) → List Bool → Type 0
IsHeldTable extents held =
    (cylinder : ℕ) → cylinder < CYLINDERS → slice_index_or held cylinder false
    ≡ has_cylinder extents cylinder

-- the cylinders of the device from one on, up to the one before the end, are all marked
pub record IsHeldRun (held : List Bool) (from end : ℕ) : Type 0 where
  pub within : end ≤ CYLINDERS
  pub marked :
      (cylinder : ℕ) → from ≤ cylinder → cylinder < end → slice_index_or held cylinder false ≡ true

-- the pairs are extents, and the table is theirs
pub record HoldsRight (extents : List (ℕ × ℕ)) (held : List Bool) : Type 0 where
  pub extents_right : AreExtents extents
  pub table_right : IsHeldTable extents held
