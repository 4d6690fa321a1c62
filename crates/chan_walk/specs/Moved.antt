-- The bytes that reachable CCWs fetch, and those into which they store.
use Rattle.std.specs.Prelude.{◌≡◌, ℕ, ◌<◌, ◌≤◌, Bool, true, Some}
use Rattle.ccw_core.specs.Ccw.{Fields}
use Rattle.ccw_core.specs.Storage.{Stands}
use Rattle.ccw_core.specs.Areas.{end_of}
use Rattle.chan_walk.specs.declared.job.Job.{Job}
use Rattle.chan_walk.specs.declared.place.Place.{Place}
use Rattle.chan_walk.specs.Fault.{fetches, stores}
use Rattle.chan_walk.specs.Job.{storage_of}
use Rattle.chan_walk.specs.Look.{Seen}
use Rattle.chan_walk.specs.Place.{ccw_of, data_at, data_of}
use Rattle.chan_walk.specs.Reachable.{IsReachable}

-- a CCW stands at p and, entered as p is, passes the test, whether or not p has an own fault
abbrev pub PassesTest : (Place → Fields → Bool) → Job → Place → Type 0
PassesTest test j p = Stands (storage_of j) p.address × (test p (ccw_of j p) ≡ true)

-- the byte at b is in the data range of a reachable CCW that passes the test
pub record IsDataOf (test : Place → Fields → Bool) (j : Job) (b : ℕ) : Type 0 where
  pub place : Place
  pub reached : IsReachable j place
  pub passes : PassesTest test j place
  pub from : (data_at j place).start ≤ b
  pub below : b < end_of (data_at j place)

-- a reachable CCW fetches the byte at b
abbrev pub IsFetchedFrom : Job → ℕ → Type 0
IsFetchedFrom j b = IsDataOf fetches j b

-- a reachable CCW stores into the byte at b
abbrev pub IsStoredInto : Job → ℕ → Type 0
IsStoredInto j b = IsDataOf stores j b

-- ---- place by place

-- it is so, and the byte at b is in the data range of the CCW that was seen
pub record IsSeenByte (l : Seen) (counts : Bool) (b : ℕ) : Type 0 where
  pub ccw : Fields
  pub seen : l.ccw ≡ Some ccw
  pub so : counts ≡ true
  pub from : (data_of ccw).start ≤ b
  pub below : b < end_of (data_of ccw)
