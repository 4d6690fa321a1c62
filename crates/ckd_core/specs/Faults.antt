-- Why pairs of cylinders are no extents: the first pair from the left that isn't an extent.
use Rattle.std.specs.Prelude.{◌≡◌, ℕ, ◌<◌, ◌≤◌, List, [], take, Some, slice_get}
use Rattle.std.specs.List.{AllByRecursion}
use Rattle.ckd_core.specs.Extents.{IsExtent, AreExtents}
use Rattle.ckd_core.specs.declared.extents.ExtentError.{ExtentError}
use Rattle.ckd_core.specs.declared.extents.ExtentError.TheVariants.{Empty, Backwards, PastDevice}
use Rattle.ckd_core.specs.declared.extents.ExtentError.TheVariants.{Memory}
use Rattle.ckd_core.specs.declared.device.TheConstants.{LAST_CYLINDER}

-- the first cylinder is above the last
abbrev pub IsBackwards : ℕ × ℕ → Type 0
IsBackwards e = e.1 < e.0

-- the cylinders are in order, and the last is past the device
abbrev pub IsPastDevice : ℕ × ℕ → Type 0
IsPastDevice e = (e.0 ≤ e.1) × (LAST_CYLINDER < e.1)

-- the pair i is wrong in this way, and those before it are extents
pub record IsFirstWrong (Wrong : ℕ × ℕ → Type 0) (pairs : List (ℕ × ℕ)) (i : ℕ) : Type 0 where
  pub pair : ℕ × ℕ
  pub stands : slice_get pairs i ≡ Some pair
  pub wrong : Wrong pair
  pub before : AllByRecursion IsExtent (take i pairs)

-- what is wrong with pairs; memory is named only where nothing is
abbrev pub IsFault : List (ℕ × ℕ) → ExtentError → Type 0
IsFault pairs Empty = pairs ≡ []
IsFault pairs (Backwards i) = IsFirstWrong IsBackwards pairs i
IsFault pairs (PastDevice i) = IsFirstWrong IsPastDevice pairs i
IsFault pairs Memory = AreExtents pairs
