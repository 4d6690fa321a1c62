-- Jobs of one program, which differ only in what they grant, and the open job, which grants all.
use Rattle.std.specs.Prelude.{◌≡◌, ℕ, ◌<◌, true, List, [], ◌∷◌, length, ◌↔◌}
use Rattle.ccw_core.specs.declared.areas.Area.{Area}
use Rattle.ccw_core.specs.Areas.{lies_in}
use Rattle.ccw_core.specs.Held.{bytes_held}
use Rattle.ckd_core.specs.Extents.{has_cylinder, all_cylinders}
use Rattle.ckd_core.specs.Mask.{is_at_least}
use Rattle.chan_walk.specs.declared.job.Job.{Job}
use Rattle.chan_walk.specs.declared.open_job.OpenJob.{OpenJob}
use Rattle.chan_walk.specs.declared.place.Place.{Place}
use Rattle.chan_walk.specs.declared.verdict.Verdict.{Verdict}
use Rattle.chan_walk.specs.declared.verdict.Verdict.TheVariants.{Yes}
use Rattle.chan_walk.specs.Guarded.{IsGuarded}
use Rattle.chan_walk.specs.Job.{storage_of, extents_of, fetch_of, store_of}
use Rattle.chan_walk.specs.Reachable.{IsReachable}
use Rattle.chan_walk.specs.Verdict.{IsVerdict}

-- two jobs of one program: they differ only in what they grant
pub record AreOfOneProgram (j k : Job) : Type 0 where
  pub storage : storage_of j ≡ storage_of k
  pub start : j.start ≡ k.start
  pub device : j.device ≡ k.device

-- all of a job's storage as one area
abbrev pub all_storage : Job → List Area
all_storage j = (record { start = 0; len = length (storage_of j) }) ∷ []

-- the open job of a job's program: all is granted that can be
abbrev pub open_job : Job → Job
open_job j = record j {
  mask = 0xC0;
  extents = record (j.extents) { now = all_cylinders };
  fetch = record (j.fetch) { now = all_storage j };
  store = record (j.store) { now = all_storage j };
}

-- k grants all that j grants
pub record GrantsMore (j k : Job) : Type 0 where
  pub mask : is_at_least j.mask k.mask ≡ true
  pub extents :
      (n : ℕ) → has_cylinder (extents_of j) n ≡ true → has_cylinder (extents_of k) n ≡ true
  pub fetch :
      (b : ℕ) → b < length (storage_of j) → lies_in (fetch_of j) b ≡ true
      → lies_in (fetch_of k) b ≡ true
  pub store :
      (b : ℕ) → b < length (storage_of j) → lies_in (store_of j) b ≡ true
      → lies_in (store_of k) b ≡ true

-- granting more never turns a yes into a no
abbrev pub MoreIsYes : Type 0
MoreIsYes =
    (j k : Job) → AreOfOneProgram j k → GrantsMore j k → IsVerdict j Yes → IsVerdict k Yes

-- two jobs of one program with a yes have the same reachable places and the same guarded bytes
abbrev pub SameUnderYes : Type 0
SameUnderYes =
    (j k : Job) → AreOfOneProgram j k → IsVerdict j Yes → IsVerdict k Yes
    → ((p : Place) → IsReachable j p ↔ IsReachable k p)
    × ((b : ℕ) → IsGuarded j b ↔ IsGuarded k b)

-- k is the open job of the program of j
pub record IsOpenJob (j k : Job) : Type 0 where
  pub program : AreOfOneProgram j k
  pub mask : k.mask ≡ 0xC0
  pub extents : extents_of k ≡ all_cylinders
  pub fetch : fetch_of k ≡ all_storage j
  pub store : store_of k ≡ all_storage j
  pub limit : k.limit ≡ j.limit

-- o holds it
pub record HoldsOpenJob (j : Job) (o : OpenJob) : Type 0 where
  pub storage : bytes_held o.storage ≡ storage_of j
  pub start : o.start ≡ j.start
  pub device : o.device ≡ j.device
  pub mask : o.mask ≡ 0xC0
  pub extents : o.extents ≡ all_cylinders
  pub areas : o.areas ≡ all_storage j
  pub limit : o.limit ≡ j.limit

-- it is the one that the needs are defined by: the same places are reachable, and the verdict is
-- the same
abbrev pub OpenJobIsOpen : Type 0
OpenJobIsOpen =
    (j k : Job) → IsOpenJob j k
    → ((p : Place) → IsReachable k p ↔ IsReachable (open_job j) p)
    × ((v : Verdict) → IsVerdict k v ↔ IsVerdict (open_job j) v)
