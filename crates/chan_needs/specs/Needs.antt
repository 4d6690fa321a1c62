-- What a program needs: which of the jobs that differ only in what they grant have the verdict yes.
use Rattle.std.specs.Prelude.{◌≡◌, ℕ, ◌<◌, true, false, Bool, not, ◌&&◌, List, ◌↔◌}
use Rattle.ccw_core.specs.Areas.{lies_in}
use Rattle.ccw_core.specs.Ccw.{byte, Fields, is_transfer}
use Rattle.ckd_core.specs.Track.{cylinder_of}
use Rattle.ckd_core.specs.Extents.{has_cylinder}
use Rattle.ckd_core.specs.Mask.{is_mask, inhibits, is_at_least}
use Rattle.chan_walk.specs.declared.job.Job.{Job}
use Rattle.chan_walk.specs.declared.place.Place.{Place}
use Rattle.chan_walk.specs.declared.reason.Reason.{Reason}
use Rattle.chan_walk.specs.declared.verdict.Verdict.TheVariants.{Yes, No}
use Rattle.chan_walk.specs.Alarm.{IsProper}
use Rattle.chan_walk.specs.Seeks.{SeeksTo}
use Rattle.chan_walk.specs.Fault.{begins_set_mask}
use Rattle.chan_walk.specs.Guarded.{IsGuarded}
use Rattle.chan_walk.specs.Headline.{IsSafe, IsSteady}
use Rattle.chan_walk.specs.Job.{storage_of, extents_of, fetch_of, store_of}
use Rattle.chan_walk.specs.Moved.{IsFetchedFrom, IsStoredInto}
use Rattle.chan_walk.specs.Place.{is_fresh, ccw_of}
use Rattle.chan_walk.specs.OpenJob.{AreOfOneProgram, GrantsMore, open_job}
use Rattle.chan_walk.specs.Reachable.{IsReachable}
use Rattle.chan_walk.specs.Runs.{IsSameIn}
use Rattle.chan_walk.specs.Verdict.{IsVerdict}

-- ---- programs

-- a place that the program can come to where all is granted
abbrev pub IsOpenlyReachable : Job → Place → Type 0
IsOpenlyReachable j p = IsReachable (open_job j) p

-- ---- what is needed

-- a place that is openly reachable fetches the byte at b
abbrev pub IsNeededForFetching : Job → ℕ → Type 0
IsNeededForFetching j = IsFetchedFrom (open_job j)

-- a place that is openly reachable stores into the byte at b
abbrev pub IsNeededForStoring : Job → ℕ → Type 0
IsNeededForStoring j = IsStoredInto (open_job j)

-- a seek that begins at a place that is openly reachable goes to this cylinder; Recalibrate is one
-- to cylinder 0
pub record IsNeededCylinder (j : Job) (cylinder : ℕ) : Type 0 where
  pub place : Place
  pub reached : IsOpenlyReachable j place
  pub argument : List ℕ
  pub seeks : SeeksTo j place argument
  pub at : cylinder_of argument ≡ cylinder

-- a command begins at p with the CCW c
abbrev pub begins : Place → Fields → Bool
begins p c = is_fresh p.entered && not (is_transfer c)

-- a place asks no more of the mask: the mask doesn't inhibit the command that begins there, and the
-- byte that Set File Mask takes there is at least as strict
pub record MaskServesAt (j : Job) (p : Place) (mask : ℕ) : Type 0 where
  pub permits : begins p (ccw_of j p) ≡ true → inhibits mask (ccw_of j p).command ≡ false
  pub admits :
      begins_set_mask p (ccw_of j p) ≡ true
      → is_at_least (byte (storage_of j) (ccw_of j p).address) mask ≡ true

-- nor does any place that is openly reachable
abbrev pub MaskServes : Job → ℕ → Type 0
MaskServes j mask = (p : Place) → IsOpenlyReachable j p → MaskServesAt j p mask

-- the strictest of the masks for which P holds
pub record IsStrictest (P : ℕ → Type 0) (mask : ℕ) : Type 0 where
  pub right : is_mask mask ≡ true
  pub small : mask < 256
  pub holds : P mask
  pub strictest : (other : ℕ) → P other → is_at_least mask other ≡ true

-- the strictest of the masks that serve
abbrev pub IsNeededMask : Job → ℕ → Type 0
IsNeededMask j = IsStrictest (MaskServes j)

-- the byte at b may not change while the program runs, under any job
abbrev pub IsKept : Job → ℕ → Type 0
IsKept j b = IsGuarded (open_job j) b

-- k grants what the program of j needs
pub record Grants (j k : Job) : Type 0 where
  pub mask : MaskServes j k.mask
  pub extents : (n : ℕ) → IsNeededCylinder j n → has_cylinder (extents_of k) n ≡ true
  pub fetch : (b : ℕ) → IsNeededForFetching j b → lies_in (fetch_of k) b ≡ true
  pub store : (b : ℕ) → IsNeededForStoring j b → lies_in (store_of k) b ≡ true

-- ---- the laws

-- the open job grants all that any job of its program grants
abbrev pub OpenJobGrantsMore : Type 0
OpenJobGrantsMore =
    (j k : Job) → AreOfOneProgram j k → IsProper k → GrantsMore k (open_job j)

-- the least job: for each job of a program the verdict is yes exactly where it is for the open job
-- and what is needed is granted
abbrev pub LeastJob : Type 0
LeastJob =
    (j k : Job) → AreOfOneProgram j k → IsProper k
    → IsVerdict k Yes ↔ (IsVerdict (open_job j) Yes × Grants j k)

-- k is of the program of j too, but for what storage holds in bytes that aren't kept
pub record KeepsProgram (j k : Job) : Type 0 where
  pub storage : IsSameIn (IsKept j) (storage_of j) (storage_of k)
  pub start : j.start ≡ k.start
  pub device : j.device ≡ k.device

-- it need be asked only once: what grants what was needed then has a yes now too
abbrev pub AskedOnce : Type 0
AskedOnce =
    (j k : Job) → KeepsProgram j k → IsVerdict (open_job j) Yes → Grants j k → IsVerdict k Yes

-- the needed mask says all that is asked of a job's mask
abbrev pub NeededMaskIsEnough : Type 0
NeededMaskIsEnough =
    (j : Job) (mask other : ℕ) → IsNeededMask j mask
    → MaskServes j other ↔ (is_at_least mask other ≡ true)

-- there is no other needed mask
abbrev pub NeededMaskIsOne : Type 0
NeededMaskIsOne =
    (j : Job) (mask other : ℕ) → IsNeededMask j mask → IsNeededMask j other → mask ≡ other

-- where the verdict on the open job is no, it is yes on no job of the program
abbrev pub NoJobWillDo : Type 0
NoJobWillDo =
    (j k : Job) (a : ℕ) (r : Reason) → AreOfOneProgram j k → IsProper k
    → IsVerdict (open_job j) (No a r) → IsVerdict k Yes → ⊥

-- every run is safe and the job is steady exactly where the verdict on the open job is yes and what
-- is needed is granted
abbrev pub SafeIsGranted : Type 0
SafeIsGranted =
    (j k : Job) → AreOfOneProgram j k → IsProper k
    → (IsSafe k × IsSteady k) ↔ (IsVerdict (open_job j) Yes × Grants j k)
