-- What can be wrong with a job as C gives it, and which of it counts.
use Rattle.std.specs.Prelude.{◌≡◌, ◌≢◌, ℕ, ◌<◌, ◌≤◌, ◌⊎◌, false, true, [], length}
use Rattle.ckd_core.specs.Extents.{AreExtents}
use Rattle.ckd_core.specs.Faults.{IsBackwards, IsFirstWrong, IsPastDevice}
use Rattle.ckd_core.specs.Mask.{is_mask}
use Rattle.chan_walk.specs.Limit.{IsLimit}
use Rattle.chanv_c.specs.declared.c_job.CJob.{CJob}
use Rattle.chanv_c.specs.declared.refusal.JobFault.{JobFault}
use Rattle.chanv_c.specs.declared.refusal.JobFault.TheVariants.{StorageTooLarge, NotADevice}
use Rattle.chanv_c.specs.declared.refusal.JobFault.TheVariants.{NotAMask, NoExtent, ExtentBackwards}
use Rattle.chanv_c.specs.declared.refusal.JobFault.TheVariants.{ExtentPastDevice, NotALimit}
use Rattle.chanv_c.specs.Job.{extents_asked}
use Rattle.ccw_core.specs.declared.ccw.TheConstants.{STORAGE_LIMIT}
use Rattle.chanv_c.specs.declared.codes.TheConstants as codes

-- this is wrong with the job; of the extents only the first from the left that is wrong is named,
-- counted from 0
abbrev pub HasJobFault : CJob → JobFault → Type 0
HasJobFault c StorageTooLarge = STORAGE_LIMIT < length c.storage.now
HasJobFault c NotADevice = (c.device ≢ 2311) × (c.device ≢ 2314)
HasJobFault c NotAMask = is_mask c.mask ≡ false
HasJobFault c NoExtent = extents_asked c ≡ []
HasJobFault c (ExtentBackwards i) = IsFirstWrong IsBackwards (extents_asked c) i
HasJobFault c (ExtentPastDevice i) = IsFirstWrong IsPastDevice (extents_asked c) i
HasJobFault c NotALimit = IsLimit c.limit → ⊥

-- the number of a fault in the header, by whose order the first fault is the one that counts
abbrev pub fault_code : JobFault → ℕ
fault_code StorageTooLarge = codes.STORAGE_TOO_LARGE
fault_code NotADevice = codes.NOT_A_DEVICE
fault_code NotAMask = codes.NOT_A_MASK
fault_code NoExtent = codes.NO_EXTENT
fault_code (ExtentBackwards i) = codes.EXTENT_BACKWARDS
fault_code (ExtentPastDevice i) = codes.EXTENT_PAST_DEVICE
fault_code NotALimit = codes.NOT_A_LIMIT

-- the index of the extent that is wrong, else 0
abbrev pub fault_extent : JobFault → ℕ
fault_extent StorageTooLarge = 0
fault_extent NotADevice = 0
fault_extent NotAMask = 0
fault_extent NoExtent = 0
fault_extent (ExtentBackwards i) = i
fault_extent (ExtentPastDevice i) = i
fault_extent NotALimit = 0

-- no fault with a number below n applies
abbrev pub HasNoFaultBelow : CJob → ℕ → Type 0
HasNoFaultBelow c n = (f : JobFault) → fault_code f < n → HasJobFault c f → ⊥

-- nothing is wrong with the job
abbrev pub HasNoFault : CJob → Type 0
HasNoFault c = (f : JobFault) → HasJobFault c f → ⊥

-- a job within all bounds has none
abbrev pub RightHasNoFault : Type 0
RightHasNoFault =
    (c : CJob) → length c.storage.now ≤ STORAGE_LIMIT → (c.device ≡ 2311) ⊎ (c.device ≡ 2314)
    → is_mask c.mask ≡ true → AreExtents (extents_asked c) → 1 ≤ c.limit → c.limit ≤ 65536
    → HasNoFault c

-- the fault applies, and none before it
pub record IsFirstFault (c : CJob) (f : JobFault) : Type 0 where
  pub applies : HasJobFault c f
  pub first : HasNoFaultBelow c (fault_code f)

-- the first fault of the job has this number, and names this extent
pub record HasFaultCode (c : CJob) (code extent : ℕ) : Type 0 where
  pub fault : JobFault
  pub code_is : fault_code fault ≡ code
  pub extent_is : fault_extent fault ≡ extent
  pub first : IsFirstFault c fault
