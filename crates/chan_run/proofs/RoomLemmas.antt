-- Room for an image, and the zeros behind it.
use Rattle.std.proofs.Common.{◌≡◌, ◌<◌, ◌≤◌, ◌-◌, ◌++◌, ◌⊎◌, ℕ, List, true, false, Option, Some, None, arith, inl, length, refl, take}
use Rattle.std.specs.Prelude.{is_some, replicate, unwrap_or}
use Rattle.std.proofs.lemmas.List.{take_all}
use Rattle.chan_run.specs.Image.{filled}
use Rattle.ccw_core.specs.declared.ccw.TheConstants.{STORAGE_LIMIT}

-- an address in the largest storage lies past storage only where a smaller size was asked for
pub past_storage : (X : Type 0) (size : Option ℕ) (at : ℕ) → unwrap_or size STORAGE_LIMIT < at → at < STORAGE_LIMIT
    → (n : ℕ) × (size ≡ Some n) × ((n < at) ⊎ X)
past_storage X None at past small = absurd (omega (arith, past, small))
past_storage X (Some n) at past small = (n, refl, inl past)

-- where a size was asked for, zeros fill the room
pub filled_up : (size : Option ℕ) (room len : ℕ) (image whole : List ℕ) → is_some size ≡ true
    → length image ≤ room → len ≡ length image → whole ≡ take room image ++ replicate (room - len) 0
    → whole ≡ filled size room image
filled_up None room len image whole some fits same is = cc
filled_up (Some n) room len image whole some fits same is = rw (is, same, take_all room image fits) refl

-- and else the image stays
pub left_alone : (size : Option ℕ) (room : ℕ) (image : List ℕ) → is_some size ≡ false
    → image ≡ filled size room image
left_alone None room image none = refl
left_alone (Some n) room image none = cc
