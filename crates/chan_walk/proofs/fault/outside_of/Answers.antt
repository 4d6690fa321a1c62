use Rattle.chan_walk.proofs.Names.{allows, ap, extents_of, false, heads, Job, List, Option, rules, Track, track_of, ℕ, ◌∙◌, ◌≡◌}
use Rattle.std.specs.Option.{option_map_or}
use Rattle.ckd_core.specs.Track.{is_allowed_track}
use Rattle.ckd_core.proofs.ArgumentLemmas.{is_allowed-track_of}
use Rattle.chan_walk.proofs.Theory.Found.{track_parts}
use Rattle.chan_walk.proofs.fault.outside_of.Goals as goal

-- the argument is allowed exactly where it names a track and the track is allowed
by_track : (j : Job) (x : List ℕ) (t : Option Track) → track_of x ≡ t → allows j x ≡ option_map_or (is_allowed_track (extents_of j) (heads j)) t false
by_track j x t e =
    is_allowed-track_of (extents_of j) (heads j) x ∙ ap (λ (t : Option Track). option_map_or (is_allowed_track (extents_of j) (heads j)) t false) e

pub returns-in_default : goal.returns-in_default
returns-in_default c = search (rules, by_track)

pub returns-then-not-has : goal.returns-then-not-has
returns-then-not-has c = search (rules, by_track, track_parts)

pub returns-then-head-heads : goal.returns-then-head-heads
returns-then-head-heads c = search (rules, by_track)

pub returns : goal.returns
returns c = search (rules, by_track, track_parts)
