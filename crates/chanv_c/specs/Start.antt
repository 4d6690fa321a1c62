-- What the answers to C about starts and about writes of others promise.
use Rattle.std.specs.Prelude.{◌≡◌, ℕ, List, Some}
use Rattle.std.specs.List.{All}
use Rattle.ccw_core.specs.declared.areas.Area.{Area}
use Rattle.chan_walk.specs.declared.job.Job.{Job}
use Rattle.chan_needs.specs.declared.layout.Remembered.{Remembered}
use Rattle.chan_needs.specs.declared.conflict.Conflict.TheVariants as way
use Rattle.chan_needs.specs.declared.start.StartRefusal.{StartRefusal}
use Rattle.chan_needs.specs.declared.start.StartRefusal.TheVariants as why
use Rattle.chan_needs.specs.declared.start.Start.{Start}
use Rattle.chan_needs.specs.declared.start.Start.TheVariants as answer
use Rattle.chan_needs.specs.Needs.{Grants, KeepsProgram}
use Rattle.chan_needs.specs.Remembered.{HoldsKept, IsKeeperOf, IsRemembered}
use Rattle.chan_needs.specs.Start.{IsAnswerOf, IsCompatibleWith, IsFit, StartsWell}
use Rattle.chanv_c.specs.declared.c_job.CJob.{CJob}
use Rattle.chanv_c.specs.declared.checks.CRefusal.{CRefusal}
use Rattle.chanv_c.specs.Faults.{HasNoFault}
use Rattle.chanv_c.specs.Job.{IsAskedJob}
use Rattle.chanv_c.specs.declared.codes.TheConstants as codes

-- ---- whether a program may start

-- the answer for what C asks; if what C remembers is true, a program with a yes may start; and one
-- that fits has a yes
pub record IsStartReply (c : CJob) (p : Remembered) (fs : List Remembered) (k : Start) : Type 0
  where
    pub job : Job
    pub asked : IsAskedJob c job
    pub reply : IsAnswerOf job p fs k
    pub well : k ≡ answer.Yes → StartsWell job p fs
    pub due : IsFit job p fs → k ≡ answer.Yes

-- if what C remembers is true, the program may start
pub record StartsWellFor (c : CJob) (p : Remembered) (fs : List Remembered) : Type 0 where
  pub job : Job
  pub asked : IsAskedJob c job
  pub well : StartsWell job p fs

-- if what C remembers of the program of `was` is true, a job without a fault, over storage that
-- holds what was kept, that grants what the program needs is answered so, provided that the program
-- is compatible with each in flight
abbrev pub StartsIfDue : CJob → Remembered → List Remembered → Type 0 → Type 0
StartsIfDue c p fs Answered =
    (was job : Job) → IsRemembered was p → IsAskedJob c job → HasNoFault c → KeepsProgram was job
    → HoldsKept job p → Grants was job → All (IsCompatibleWith p) fs → Answered

-- ---- what is told

-- a refusal's number, and an address or a cylinder; no row is named
abbrev pub refused : ℕ → ℕ → CRefusal
refused code value =
    record { extent = 0; row = codes.NOBODY; code = code; value = value }

-- nothing but which extent is wrong
abbrev pub no_refusal_for_c : ℕ → CRefusal
no_refusal_for_c extent = record (refused 0 0) { extent = extent }

-- the number of a refusal, its address or cylinder, and the number of one in flight
abbrev pub refusal_for_c : StartRefusal → CRefusal
refusal_for_c why.OtherStart = refused codes.REFUSED_OTHER_START 0
refusal_for_c why.OtherDevice = refused codes.REFUSED_OTHER_DEVICE 0
refusal_for_c why.OtherLength = refused codes.REFUSED_OTHER_LENGTH 0
refusal_for_c (why.Changed b) = refused codes.REFUSED_CHANGED b
refusal_for_c why.Mask = refused codes.REFUSED_MASK 0
refusal_for_c (why.Cylinder c) = refused codes.REFUSED_NO_CYLINDER c
refusal_for_c (why.Fetch b) = refused codes.REFUSED_NOT_FETCHABLE b
refusal_for_c (why.Store b) = refused codes.REFUSED_NOT_STORABLE b
refusal_for_c (why.Conflict i (way.Stores b)) =
    record (refused codes.REFUSED_STORES_OVER_KEPT b) { row = i }
refusal_for_c (why.Conflict i (way.Keeps b)) =
    record (refused codes.REFUSED_KEEPS_STORED_OVER b) { row = i }

-- what is told with an answer
abbrev pub start_for_c : Start → CRefusal
start_for_c answer.Yes = no_refusal_for_c 0
start_for_c (answer.No r) = refusal_for_c r

-- the number of an answer in the header
abbrev pub start_code : Start → ℕ
start_code answer.Yes = codes.YES
start_code (answer.No r) = codes.NO

-- ---- who may write

-- what is told of the first that keeps a byte, and of the least such byte
abbrev pub keeper_for_c : ℕ → ℕ → CRefusal
keeper_for_c i b = record (refused codes.REFUSED_WRITES_OVER_KEPT b) { row = i }

-- others may not write: this is told of the first that keeps a byte of the area
abbrev pub IsWriteRefused : List Remembered → Area → CRefusal → Type 0
IsWriteRefused fs a out =
    (i : ℕ) × (b : ℕ) × IsKeeperOf fs a (Some (i, b)) × (out ≡ keeper_for_c i b)
