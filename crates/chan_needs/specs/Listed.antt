-- What needs list: what that says of a program, and what follows from it.
use Rattle.std.specs.Prelude.{◌≡◌, ℕ, ◌+◌, ◌-◌, ◌<◌, ◌≤◌, true, List, [], ◌∷◌, ◌↔◌, length, map}
use Rattle.ccw_core.specs.declared.areas.Area.{Area}
use Rattle.ccw_core.specs.Areas.{lies_in}
use Rattle.ckd_core.specs.Track.{cylinder_of}
use Rattle.ckd_core.specs.Extents.{has_cylinder}
use Rattle.chan_walk.specs.declared.job.Job.{Job}
use Rattle.chan_needs.specs.declared.needs.Needs.{Needs}
use Rattle.chan_walk.specs.declared.place.Place.{Place}
use Rattle.chan_needs.specs.declared.layout.Extent.{Extent}
use Rattle.chan_needs.specs.declared.layout.NeedLists.{NeedLists}
use Rattle.chan_walk.specs.declared.verdict.Verdict.TheVariants.{Yes}
use Rattle.chan_walk.specs.Alarm.{IsProper}
use Rattle.chan_needs.specs.SideBySide.{AreJobsCompatible}
use Rattle.chan_walk.specs.Seeks.{SeeksTo}
use Rattle.chan_walk.specs.Job.{storage_of}
use Rattle.chan_walk.specs.Places.{AreReached}
use Rattle.chan_walk.specs.Look.{AreLooks, Seen, places_of_looks}
use Rattle.chan_walk.specs.OpenJob.{AreOfOneProgram, open_job}
use Rattle.chan_needs.specs.Needs.{IsKept, IsNeededCylinder, IsNeededForFetching}
use Rattle.chan_needs.specs.Needs.{IsNeededForStoring, IsNeededMask}
use Rattle.chan_areas.specs.Merged.{AreExactly, IsLeastOf, IsByteOf}
use Rattle.chan_walk.specs.Reachable.{IsReachable}
use Rattle.chan_walk.specs.Verdict.{IsVerdict}
use Rattle.ckd_core.specs.Levels.{write_level, seek_level}
use Rattle.chan_needs.specs.declared.conflict.Conflict.{Conflict}
use Rattle.chan_needs.specs.declared.conflict.Conflict.TheVariants as way

-- ---- what lists say

-- how long storage is, a mask, runs of cylinders as pairs of first and last, and three lists of
-- areas
pub record Listed : Type 0 where
  pub storage_len : ℕ
  pub mask : ℕ
  pub extents : List (ℕ × ℕ)
  pub fetch : List Area
  pub store : List Area
  pub keep : List Area

-- first and last cylinder
abbrev pub pair : Extent → ℕ × ℕ
pair e = (e.first, e.last)

-- what needs list
abbrev pub listed : Needs → Listed
listed n = record {
  storage_len = n.storage_len;
  mask = n.mask;
  extents = map pair n.extents.items;
  fetch = n.fetch.items;
  store = n.store.items;
  keep = n.keep.items;
}

-- what lists in the caller's memory list
abbrev pub listed_in : NeedLists → Listed
listed_in n = record {
  storage_len = n.storage_len;
  mask = n.mask;
  extents = map pair n.extents.now;
  fetch = n.fetch.now;
  store = n.store.now;
  keep = n.keep.now;
}

-- each run begins above n
abbrev pub RunsAbove : ℕ → List (ℕ × ℕ) → Type 0
RunsAbove n [] = Unit {0}
RunsAbove n (r ∷ rest) = (n < r.0) × RunsAbove n rest

-- runs of first and last: each is in order, they rise, and at least one number lies between two
abbrev pub AreRising : List (ℕ × ℕ) → Type 0
AreRising [] = Unit {0}
AreRising (r ∷ rest) = (r.0 ≤ r.1) × RunsAbove (r.1 + 1) rest × AreRising rest

-- the runs are the one such list of the cylinders for which P holds
pub record AreRunsOf (P : ℕ → Type 0) (runs : List (ℕ × ℕ)) : Type 0 where
  pub rising : AreRising runs
  pub cylinders : (n : ℕ) → (has_cylinder runs n ≡ true) ↔ P n

-- some job will do for the program of j, and this is what it needs and keeps: no more, and no less
pub record AreNeeds (j : Job) (n : Listed) : Type 0 where
  pub verdict : IsVerdict (open_job j) Yes
  pub storage_len : n.storage_len ≡ length (storage_of j)
  pub mask : IsNeededMask j n.mask
  pub extents : AreRunsOf (IsNeededCylinder j) n.extents
  pub fetch : AreExactly (IsNeededForFetching j) n.fetch
  pub store : AreExactly (IsNeededForStoring j) n.store
  pub keep : AreExactly (IsKept j) n.keep

-- ---- side by side

-- neither program stores, where it needs to, over what the other keeps
pub record AreProgramsCompatible (j k : Job) : Type 0 where
  pub one_spares : (b : ℕ) → IsNeededForStoring j b → IsKept k b → ⊥
  pub other_spares : (b : ℕ) → IsNeededForStoring k b → IsKept j b → ⊥

-- the byte at b lies in both lists
abbrev pub IsShared : List Area → List Area → ℕ → Type 0
IsShared xs ys b = (lies_in xs b ≡ true) × (lies_in ys b ≡ true)

-- it is so exactly where two jobs of the programs, each with a yes, are compatible
abbrev pub CompatibleByJobs : Type 0
CompatibleByJobs =
    (j k one other : Job) → AreOfOneProgram j one → AreOfOneProgram k other → IsProper one
    → IsProper other → IsVerdict one Yes → IsVerdict other Yes
    → AreProgramsCompatible j k ↔ AreJobsCompatible one other

-- neither of two programs stores into a byte that the other keeps, as they are listed
pub record AreNeedsCompatible (n m : Listed) : Type 0 where
  pub one_spares : (b : ℕ) → IsShared n.store m.keep b → ⊥
  pub other_spares : (b : ℕ) → IsShared m.store n.keep b → ⊥

-- why two programs may not run side by side: the least byte that the first stores into and the
-- other keeps, or without one the least that the first keeps and the other stores into
abbrev pub IsConflict : Listed → Listed → Conflict → Type 0
IsConflict n m (way.Stores b) = IsLeastOf (IsShared n.store m.keep) b
IsConflict n m (way.Keeps b) =
    ((c : ℕ) → IsShared n.store m.keep c → ⊥) × IsLeastOf (IsShared m.store n.keep) b

-- the byte at b is one of the area, and is listed as kept
abbrev pub IsKeptIn : Listed → Area → ℕ → Type 0
IsKeptIn n a b = (lies_in n.keep b ≡ true) × IsByteOf a b

-- ---- how they are found

-- the job has a yes, and these are looks at all its reachable places
pub record AreLooksOfYes (j : Job) (ls : List Seen) : Type 0 where
  pub proper : IsProper j
  pub verdict : IsVerdict j Yes
  pub looks : AreLooks j ls
  pub reached : AreReached j (places_of_looks ls)

-- the seek or the Recalibrate that begins at p goes to this cylinder
abbrev pub SeeksCylinder : Job → Place → ℕ → Type 0
SeeksCylinder j p n = (x : List ℕ) × SeeksTo j p x × (cylinder_of x ≡ n)

-- and a reachable place begins it
abbrev pub IsSought : Job → ℕ → Type 0
IsSought j n = (p : Place) × IsReachable j p × SeeksCylinder j p n

-- the first and the last number of an area
abbrev pub run_of : Area → Extent
run_of a = record { first = a.start; last = a.start + a.len - 1 }

-- the masks for which P holds are those up to these levels
abbrev pub AreBounds : (ℕ → Type 0) → ℕ → ℕ → Type 0
AreBounds P writes seeks =
    (m : ℕ) → P m ↔ ((write_level m ≤ writes) × (seek_level m ≤ seeks))
