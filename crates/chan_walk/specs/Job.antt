-- What a job shows. The channel program's start and the file mask are numbers of the job itself.
use Rattle.std.specs.Prelude.{◌≡◌, ℕ, true, List}
use Rattle.ccw_core.specs.declared.areas.Area.{Area}
use Rattle.ccw_core.specs.Held.{bytes_held}
use Rattle.ckd_core.specs.Device.{heads_of}
use Rattle.ckd_core.specs.Mask.{is_mask}
use Rattle.chan_walk.specs.declared.job.Job.{Job}

-- main storage from address 0 on, as it is before the program's start: the initial storage
abbrev pub storage_of : Job → List ℕ
storage_of j = bytes_held j.storage

-- the cylinders of the file, as pairs of first and last
abbrev pub extents_of : Job → List (ℕ × ℕ)
extents_of j = j.extents.now

-- the areas lent for fetching, from storage to the device
abbrev pub fetch_of : Job → List Area
fetch_of j = j.fetch.now

-- the areas lent for storing, from the device into storage
abbrev pub store_of : Job → List Area
store_of j = j.store.now

-- how many heads the job's device has
abbrev pub heads : Job → ℕ
heads j = heads_of j.device

-- the job's mask is a file mask
abbrev pub HasMask : Job → Type 0
HasMask j = is_mask j.mask ≡ true
