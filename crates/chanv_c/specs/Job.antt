-- What C asks, as a job of `chan_walk`.
use Rattle.std.specs.Prelude.{◌≡◌, ℕ, List, map}
use Rattle.ccw_core.specs.Held.{bytes_held}
use Rattle.chan_walk.specs.declared.job.Job.{Job}
use Rattle.chan_walk.specs.Job.{extents_of, fetch_of, storage_of, store_of}
use Rattle.chan_needs.specs.Remembered.{device_number}
use Rattle.chan_needs.specs.Listed.{pair}
use Rattle.chanv_c.specs.declared.c_job.CJob.{CJob}
use Rattle.chanv_c.specs.declared.c_job.ReadyJob.{ReadyJob}
use Rattle.chanv_c.specs.declared.codes.TheConstants as codes

-- the extents that C names, as pairs
abbrev pub extents_asked : CJob → List (ℕ × ℕ)
extents_asked c = map pair c.extents.now

-- the job is the one that C asks about, field by field
pub record IsAskedJob (c : CJob) (j : Job) : Type 0 where
  pub storage : storage_of j ≡ c.storage.now
  pub start : j.start ≡ c.start
  pub device : device_number j.device ≡ c.device
  pub mask : j.mask ≡ c.mask
  pub extents : extents_of j ≡ extents_asked c
  pub fetch : fetch_of j ≡ c.fetch.now
  pub store : store_of j ≡ c.store.now
  pub limit : j.limit ≡ c.limit

-- the job of a call that counts no places: whatever limit C names, it has the usual limit
abbrev pub uncounted : CJob → CJob
uncounted c = record c { limit = codes.USUAL_LIMIT }

-- two jobs agree in every field
pub record AreEqualJobs (j k : Job) : Type 0 where
  pub storage : storage_of j ≡ storage_of k
  pub start : j.start ≡ k.start
  pub device : j.device ≡ k.device
  pub mask : j.mask ≡ k.mask
  pub extents : extents_of j ≡ extents_of k
  pub fetch : fetch_of j ≡ fetch_of k
  pub store : store_of j ≡ store_of k
  pub limit : j.limit ≡ k.limit

-- two structs of C name the same in every field
pub record NameEqualJobs (c d : CJob) : Type 0 where
  pub storage : c.storage.now ≡ d.storage.now
  pub start : c.start ≡ d.start
  pub device : c.device ≡ d.device
  pub mask : c.mask ≡ d.mask
  pub extents : extents_asked c ≡ extents_asked d
  pub fetch : c.fetch.now ≡ d.fetch.now
  pub store : c.store.now ≡ d.store.now
  pub limit : c.limit ≡ d.limit

-- a struct of C asks about one job alone, and two that ask about one job name the same
pub record AskedIsOne : Type 0 where
  pub job : (c : CJob) (j k : Job) → IsAskedJob c j → IsAskedJob c k → AreEqualJobs j k
  pub named : (c d : CJob) (j : Job) → IsAskedJob c j → IsAskedJob d j → NameEqualJobs c d

-- what was made ready is what C named
pub record IsReadyJob (c : CJob) (r : ReadyJob) : Type 0 where
  pub storage : bytes_held r.storage ≡ c.storage.now
  pub device : device_number r.device ≡ c.device
  pub mask : r.mask ≡ c.mask
  pub extents : r.extents ≡ extents_asked c
  pub limit : r.limit ≡ c.limit
