-- The areas lent to a program as they are kept for searching.
use Rattle.std.specs.Prelude.{◌≡◌, ◌<◌, true, List, length}
use Rattle.ccw_core.specs.declared.areas.Area.{Area}
use Rattle.ccw_core.specs.Areas.{lies_in}
use Rattle.chan_areas.specs.Merged.{AreExactly}
use Rattle.chan_walk.specs.declared.direction.Direction.{Direction}
use Rattle.chan_walk.specs.declared.direction.Direction.TheVariants.{Store, Fetch}
use Rattle.chan_walk.specs.declared.job.Job.{Job}
use Rattle.chan_walk.specs.Direction.{lent_for}
use Rattle.chan_walk.specs.Job.{storage_of}

-- two lists of areas: those lent for fetching, and those lent for storing
pub record LentAreas : Type 0 where
  pub fetch : List Area
  pub store : List Area

-- those for one of the two
abbrev pub areas_for : Direction → LentAreas → List Area
areas_for Store l = l.store
areas_for Fetch l = l.fetch

-- these areas have exactly the bytes of storage that the job was lent
abbrev pub AreLent : Job → LentAreas → Type 0
AreLent j l =
    (d : Direction)
    → AreExactly (λ b. (b < length (storage_of j)) × (lies_in (lent_for d j) b ≡ true))
    (areas_for d l)
