-- The argument of a seek: two bytes of bin, two of cylinder, two of head
-- (component descriptions of the 2841 with the 2311, and of the 2314).
use Rattle.std.specs.Prelude.{ℕ, ◌+◌, ◌*◌, ◌==◌, ◌&&◌, Bool, nat_lt, List, Option, Some, None}
use Rattle.std.specs.Prelude.{slice_index, if◌then◌else◌}
use Rattle.ckd_core.specs.Extents.{has_cylinder}
use Rattle.ckd_core.specs.declared.track.Track.{Track}

-- both bytes of bin are zero, as these devices have none
abbrev pub has_no_bin : List ℕ → Bool
has_no_bin x = slice_index x 0 == 0 && slice_index x 1 == 0

abbrev pub cylinder_of : List ℕ → ℕ
cylinder_of x = slice_index x 2 * 256 + slice_index x 3

abbrev pub head_of : List ℕ → ℕ
head_of x = slice_index x 4 * 256 + slice_index x 5

-- the argument names no bin, a cylinder inside the extents and a head that the device has
unfoldable pub is_allowed : List (ℕ × ℕ) → ℕ → List ℕ → Bool
is_allowed extents heads x =
    has_no_bin x && has_cylinder extents (cylinder_of x) && nat_lt (head_of x) heads

-- the track that the argument names, where it names no bin
abbrev pub track_of : List ℕ → Option Track
track_of x =
    if has_no_bin x then Some (record { cylinder = cylinder_of x; head = head_of x }) else None

-- the track lies inside the extents, and its head is one that the device has
abbrev pub is_allowed_track : List (ℕ × ℕ) → ℕ → Track → Bool
is_allowed_track extents heads track =
    has_cylinder extents track.cylinder && nat_lt track.head heads
