-- The reachable places as one list, and that there are too many of them.
use Rattle.std.specs.Prelude.{ℕ, ◌+◌, ◌*◌, ◌<◌, Bool, true, false, List, [], ◌∷◌, map, length}
use Rattle.std.specs.List.Sorted.{IsStrictlyIncreasing}
use Rattle.chan_walk.specs.declared.job.Job.{Job}
use Rattle.chan_walk.specs.declared.place.Entry.{Entry}
use Rattle.chan_walk.specs.declared.place.Entry.TheVariants.{Fresh, ChainIn, ChainOut, ChainSearch}
use Rattle.chan_walk.specs.declared.place.Place.{Place}
use Rattle.chan_walk.specs.Argument.{Has}
use Rattle.chan_walk.specs.Reachable.{IsReachable}

-- the list has exactly the reachable places
abbrev pub AreReached : Job → List Place → Type 0
AreReached j ps =
    ((p : Place) → IsReachable j p → Has ps p) × ((p : Place) → Has ps p → IsReachable j p)

-- the entries in their order
abbrev pub entry_number : Entry → ℕ
entry_number Fresh = 0
entry_number ChainIn = 1
entry_number ChainOut = 2
entry_number ChainSearch = 3

-- 1 for a place that counts as reached by a transfer in channel
abbrev pub transfer_number : Bool → ℕ
transfer_number true = 1
transfer_number false = 0

-- the way in which a place is entered, 0 to 7
abbrev pub way_of : Place → ℕ
way_of p = 2 * entry_number p.entered + transfer_number p.after_transfer

-- places are in order as these numbers are: by address, then by entry, then whether reached by a
-- transfer
abbrev pub place_number : Place → ℕ
place_number p = 8 * p.address + way_of p

-- the list has exactly the reachable places, each once, in order
pub record AreReachable (j : Job) (ps : List Place) : Type 0 where
  pub ordered : IsStrictlyIncreasing (map place_number ps)
  pub each : (p : Place) → IsReachable j p → Has ps p
  pub only : (p : Place) → Has ps p → IsReachable j p

-- nothing stands twice
abbrev pub AreDistinct : {X : Type 0} → List X → Type 0
AreDistinct [] = Unit {0}
AreDistinct (p ∷ ps) = (Has ps p → ⊥) × AreDistinct ps

-- there are more than n reachable places
pub record HasMoreThan (j : Job) (n : ℕ) : Type 0 where
  pub places : List Place
  pub distinct : AreDistinct places
  pub many : n < length places
  pub only : (p : Place) → Has places p → IsReachable j p
