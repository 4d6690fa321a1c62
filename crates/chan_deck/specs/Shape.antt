-- How large a program is.
use Rattle.std.specs.Prelude.{◌≡◌, ℕ, List, length}
use Rattle.chan_walk.specs.declared.job.Job.{Job}
use Rattle.chan_walk.specs.declared.place.Place.{Place}
use Rattle.chan_walk.specs.Places.{AreReachable}

-- there are n reachable places
abbrev pub HasPlaceCount : Job → ℕ → Type 0
HasPlaceCount j n = (ps : List Place) × AreReachable j ps × (n ≡ length ps)
