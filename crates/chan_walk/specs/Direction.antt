-- Which way data goes: from the device into storage, or from storage to the device.
use Rattle.std.specs.Prelude.{Bool, true, false, List, Option, None, Some, if◌then◌else◌}
use Rattle.ccw_core.specs.declared.areas.Area.{Area}
use Rattle.ccw_core.specs.Ccw.{Fields}
use Rattle.chan_walk.specs.declared.direction.Direction.{Direction}
use Rattle.chan_walk.specs.declared.direction.Direction.TheVariants.{Store, Fetch}
use Rattle.chan_walk.specs.declared.job.Job.{Job}
use Rattle.chan_walk.specs.declared.place.Place.{Place}
use Rattle.chan_walk.specs.Fault.{fetches, stores}
use Rattle.chan_walk.specs.Job.{fetch_of, store_of}

-- the CCW c, entered as the place is, moves data this way
abbrev pub moves_by : Direction → Place → Fields → Bool
moves_by Store p c = stores p c
moves_by Fetch p c = fetches p c

-- which way it does, if it does
abbrev pub direction_of : Place → Fields → Option Direction
direction_of p c = if stores p c then Some Store else if fetches p c then Some Fetch else None

-- it does, and this way
abbrev pub is_direction : Direction → Option Direction → Bool
is_direction d None = false
is_direction Store (Some Store) = true
is_direction Store (Some Fetch) = false
is_direction Fetch (Some Store) = false
is_direction Fetch (Some Fetch) = true

-- the areas that the job was lent for it
abbrev pub lent_for : Direction → Job → List Area
lent_for Store j = store_of j
lent_for Fetch j = fetch_of j
