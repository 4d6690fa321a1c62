-- The argument of a seek and the track that it names are two views of one thing.
use Rattle.std.proofs.Common.{◌≡◌, ℕ, Bool, true, false, ◌&&◌, cond, List, Some, None, refl, nat_lt}
use Rattle.std.specs.Option.{option_map_or}
use Rattle.ckd_core.specs.Track.{has_no_bin, cylinder_of, head_of, is_allowed, is_allowed_track, track_of}
use Rattle.ckd_core.specs.Extents.{has_cylinder}
use Rattle.ckd_core.specs.declared.track.Track.{Track}

by_bin : (extents : List (ℕ × ℕ)) (heads : ℕ) (track : Track) (no_bin : Bool)
    → (no_bin && has_cylinder extents track.cylinder && nat_lt track.head heads)
    ≡ option_map_or (is_allowed_track extents heads) (cond no_bin (Some track) None) false
by_bin extents heads track true = refl
by_bin extents heads track false = refl

-- an argument is allowed exactly where it names a track and the track is allowed
pub is_allowed-track_of : (extents : List (ℕ × ℕ)) (heads : ℕ) (x : List ℕ)
    → is_allowed extents heads x ≡ option_map_or (is_allowed_track extents heads) (track_of x) false
unfolding is_allowed
is_allowed-track_of extents heads x = by_bin extents heads (record { cylinder = cylinder_of x; head = head_of x }) (has_no_bin x)
