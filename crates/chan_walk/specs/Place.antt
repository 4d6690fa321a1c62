-- Places: the address of a channel command word (CCW), together with the way in which it is
-- entered.
use Rattle.std.specs.Prelude.{ℕ, Bool, true, false}
use Rattle.ccw_core.specs.Ccw.{Fields, ccw}
use Rattle.chan_walk.specs.declared.job.Job.{Job}
use Rattle.chan_walk.specs.declared.place.Entry.{Entry}
use Rattle.chan_walk.specs.declared.place.Entry.TheVariants.{Fresh, ChainIn, ChainOut, ChainSearch}
use Rattle.chan_walk.specs.declared.place.Place.{Place}
use Rattle.chan_walk.specs.Job.{storage_of}
use Rattle.ccw_core.specs.declared.areas.Area.{Area}

-- a new operation begins there, so that the command code counts
abbrev pub is_fresh : Entry → Bool
is_fresh Fresh = true
is_fresh ChainIn = false
is_fresh ChainOut = false
is_fresh ChainSearch = false

-- entered without a transfer in channel
abbrev pub straight_to : ℕ → Entry → Place
straight_to a e = record { address = a; entered = e; after_transfer = false }

-- entered by a transfer in channel
abbrev pub transferred_to : ℕ → Entry → Place
transferred_to a e = record { address = a; entered = e; after_transfer = true }

-- the first place: it counts as reached by a transfer in channel, since a transfer may not come
-- first (System/360 Principles of Operation, A22-6821), and a supervisor may put commands of its
-- own and a transfer before the program
abbrev pub first_place : Job → Place
first_place j = transferred_to j.start Fresh

-- the CCW at a place, in the initial storage
abbrev pub ccw_of : Job → Place → Fields
ccw_of j p = ccw (storage_of j) p.address

-- the data range of a CCW
abbrev pub data_of : Fields → Area
data_of c = record { start = c.address; len = c.count }

-- that of the CCW at a place
abbrev pub data_at : Job → Place → Area
data_at j p = data_of (ccw_of j p)
