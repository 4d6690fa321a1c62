-- The bytes of storage that a program may not change while it runs.
--
-- Four sets of bytes are about this. A byte is *used* where some run of the job uses it (`Runs`).
-- It is *guarded* where a reachable place has it in its CCW or its argument; under a yes that is
-- the same, by a law of `Alarm`. It is *kept* where it is guarded under the program's open job,
-- whatever the job grants: what a supervisor remembers (`Needs` of chan_needs). A verdict, be it a
-- yes or a no, depends on no byte but its *verdict bytes* (`VerdictBytes`), though not on each:
-- as such, byte 5 of a CCW never counts. Under a yes each of them is guarded.
use Rattle.std.specs.Prelude.{◌≡◌, ℕ, ◌+◌, ◌<◌, ◌≤◌, true, List, ◌⊎◌}
use Rattle.ccw_core.specs.Ccw.{ccw}
use Rattle.ccw_core.specs.Storage.{Stands}
use Rattle.chan_walk.specs.declared.job.Job.{Job}
use Rattle.chan_walk.specs.declared.place.Place.{Place}
use Rattle.chan_walk.specs.Argument.{Has, IsChain, argument_addresses}
use Rattle.chan_walk.specs.Fault.{begins_seek, begins_set_mask, IsClear}
use Rattle.chan_walk.specs.Job.{storage_of}
use Rattle.chan_walk.specs.Reachable.{IsReachable}

-- the byte at b belongs to a reachable CCW
pub record IsCcwByte (j : Job) (b : ℕ) : Type 0 where
  pub place : Place
  pub reached : IsReachable j place
  pub stands : Stands (storage_of j) place.address
  pub from : place.address ≤ b
  pub below : b < place.address + 8

-- a seek begins at p, and the byte at b is one of the six of its argument
pub record IsSeekByte (s : List ℕ) (p : Place) (b : ℕ) : Type 0 where
  pub seeks : begins_seek p (ccw s p.address) ≡ true
  pub chain : List ℕ
  pub is_chain : IsChain s 6 p.address chain
  pub has : Has (argument_addresses s chain) b

-- Set File Mask begins at p, and the byte at b is the one that it sets
pub record IsMaskByte (s : List ℕ) (p : Place) (b : ℕ) : Type 0 where
  pub sets : begins_set_mask p (ccw s p.address) ≡ true
  pub at : (ccw s p.address).address ≡ b

-- p takes the byte at b: for a seek's argument, or as a mask
abbrev pub TakesArgumentByte : List ℕ → Place → ℕ → Type 0
TakesArgumentByte s p b = IsSeekByte s p b ⊎ IsMaskByte s p b

-- the byte at b is an argument of a reachable place that has no own fault: a seek's, or the one of
-- Set File Mask
pub record IsArgumentByte (j : Job) (b : ℕ) : Type 0 where
  pub place : Place
  pub reached : IsReachable j place
  pub clear : IsClear j place
  pub takes : TakesArgumentByte (storage_of j) place b

-- the byte at b is guarded
abbrev pub IsGuarded : Job → ℕ → Type 0
IsGuarded j b = IsCcwByte j b ⊎ IsArgumentByte j b
