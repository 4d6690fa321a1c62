-- What the needs that C is told promise.
use Rattle.std.specs.Prelude.{◌≡◌, ◌≢◌, ℕ, ◌+◌, ◌≤◌, ◌&&◌, nat_le, List, [], ◌∷◌, ◌++◌, drop}
use Rattle.std.specs.Prelude.{bit_and, length, if◌then◌else◌, map, Option, None, Some, IsSome}
use Rattle.std.specs.Prelude.{take, ◌⊎◌}
use Rattle.std.specs.Option.{unwrap_or}
use Rattle.ccw_core.specs.declared.areas.Area.{Area}
use Rattle.chan_walk.specs.declared.job.Job.{Job}
use Rattle.chan_walk.specs.declared.place.Place.{Place}
use Rattle.chan_walk.specs.declared.reason.Reason.{Reason}
use Rattle.chan_walk.specs.declared.verdict.Verdict.{Verdict}
use Rattle.chan_walk.specs.declared.verdict.Verdict.TheVariants.{Yes, No}
use Rattle.chan_walk.specs.Answers.{IsAnswer}
use Rattle.chan_walk.specs.Job.{storage_of}
use Rattle.chan_walk.specs.Places.{HasMoreThan, entry_number}
use Rattle.chan_walk.specs.OpenJob.{open_job, IsOpenJob}
use Rattle.chan_needs.specs.Listed.{AreNeeds, Listed, listed}
use Rattle.chan_walk.specs.Verdict.{IsVerdict}
use Rattle.chan_why.specs.declared.remarks.Remarks.{Remarks}
use Rattle.chan_why.specs.Remarks.{AreRemarks}
use Rattle.chan_areas.specs.Merged.{AreExactly, IsLeastOf}
use Rattle.chan_needs.specs.Needs.{IsKept}
use Rattle.chan_needs.specs.Remembered.{HoldsAreas, IsKeptOutside, SparesOutside, bytes_in}
use Rattle.chan_needs.specs.Remembered.{device_number, total_len}
use Rattle.chan_needs.specs.declared.layout.Extent.{Extent}
use Rattle.chanv_c.specs.declared.c_job.CJob.{CJob}
use Rattle.chanv_c.specs.declared.checks.CRefusal.{CRefusal}
use Rattle.chanv_c.specs.declared.codes.TheConstants as codes
use Rattle.chanv_c.specs.declared.take_in.CNeeded.{CNeeded}
use Rattle.chanv_c.specs.declared.take_in.FoundNeeds.{FoundNeeds}
use Rattle.chanv_c.specs.declared.take_in.FoundNeeds.TheVariants as found
use Rattle.chanv_c.specs.declared.take_in.FoundKept.{FoundKept}
use Rattle.chanv_c.specs.declared.take_in.FoundKept.TheVariants as first
use Rattle.chanv_c.specs.declared.verify.CVerdict.{CVerdict}
use Rattle.chanv_c.specs.declared.refusal.Refusal.{Refusal}
use Rattle.chanv_c.specs.declared.refusal.Refusal.TheVariants.{Memory}
use Rattle.chanv_c.specs.Answers.{IsRefusal}
use Rattle.chanv_c.specs.Job.{IsAskedJob}
use Rattle.chanv_c.specs.Start.{no_refusal_for_c, refused}
use Rattle.chanv_c.specs.Why.{verdict_for_c}

-- ---- the open job

-- this is the open job of the program that C asks about, with the limit that C names
pub record IsOpenJobFor (c : CJob) (opened : Job) : Type 0 where
  pub job : Job
  pub asked : IsAskedJob c job
  pub is_open : IsOpenJob job opened

-- more places than the limit are reachable where all is granted
pub record HasTooManyOpenly (c : CJob) : Type 0 where
  pub opened : Job
  pub is_open : IsOpenJobFor c opened
  pub many : HasMoreThan opened c.limit

-- the verdict on the open job, with all that an answer promises
pub record IsJudgedOpenly (c : CJob) (v : Verdict) : Type 0 where
  pub opened : Job
  pub is_open : IsOpenJobFor c opened
  pub answer : IsAnswer opened v
  pub verdict : IsVerdict (open_job is_open.job) v

-- some job will do for the program that C asks about, this is what it needs and keeps, and this is
-- what it may do
pub record AreNeedsOf (c : CJob) (n : Listed) (r : Remarks) : Type 0 where
  pub judged : IsJudgedOpenly c Yes
  pub needs : AreNeeds judged.is_open.job n
  pub remarks : AreRemarks judged.opened r

-- some job will do, and these are the bytes that the program keeps
pub record AreKeptOf (c : CJob) (areas : List Area) : Type 0 where
  pub judged : IsJudgedOpenly c Yes
  pub keep : AreExactly (IsKept judged.is_open.job) areas

-- what a first look found: the bytes that are kept, or the no of the open job
abbrev pub IsFoundKept : CJob → FoundKept → Type 0
IsFoundKept c (first.Kept v) = AreKeptOf c v.items
IsFoundKept c (first.NoJob a r) = IsJudgedOpenly c (No a r)

-- what was found of the program: its needs, or the no of its open job
abbrev pub IsFoundNeeds : CJob → FoundNeeds → Type 0
IsFoundNeeds c (found.Needed n r) = AreNeedsOf c (listed n) r
IsFoundNeeds c (found.NoJob a r) = IsJudgedOpenly c (No a r)

-- ---- what is told

-- a run of cylinders for C
abbrev pub extent_for_c : ℕ × ℕ → Extent
extent_for_c r = record { first = r.0; last = r.1 }

-- only a verdict, or which extent is wrong
abbrev pub without_needs : CVerdict → CNeeded
without_needs v = record {
  verdict = v;
  refusal = no_refusal_for_c 0;
  hangs_at = 0;
  interrupts_at = 0;
  ends_chaining_at = 0;
  may_hang = 0;
  interrupts = 0;
  ends_chaining = 0;
  hangs_entered = 0;
  extent_count = 0;
  fetch_count = 0;
  store_count = 0;
  keep_count = 0;
  kept_len = 0;
  storage_len = 0;
  mask = 0;
}

-- 1 if there is such a place or CCW
abbrev pub is_there : {X : Type 0} → Option X → ℕ
is_there None = 0
is_there (Some x) = 1

-- the address of such a place, and how it is entered
abbrev pub hang_address : Option Place → ℕ
hang_address None = 0
hang_address (Some p) = p.address

abbrev pub hang_entry : Option Place → ℕ
hang_entry None = 0
hang_entry (Some p) = entry_number p.entered

-- how long each list is, how many bytes are kept, how long storage is, the mask, and what the
-- program may do
abbrev pub needs_for_c : Listed → Remarks → CNeeded
needs_for_c n r = record (without_needs (verdict_for_c Yes)) {
  hangs_at = hang_address r.hangs;
  interrupts_at = unwrap_or r.interrupts 0;
  ends_chaining_at = unwrap_or r.ends_chaining 0;
  may_hang = is_there r.hangs;
  interrupts = is_there r.interrupts;
  ends_chaining = is_there r.ends_chaining;
  hangs_entered = hang_entry r.hangs;
  extent_count = length n.extents;
  fetch_count = length n.fetch;
  store_count = length n.store;
  keep_count = length n.keep;
  kept_len = total_len n.keep;
  storage_len = n.storage_len;
  mask = n.mask;
}

-- some job will do, and this is told of what the program needs
pub record AreNeedsForC (c : CJob) (n : Listed) (r : Remarks) (out : CNeeded) : Type 0 where
  pub needs : AreNeedsOf c n r
  pub out_is : out ≡ needs_for_c n r

-- no job will do, and this is told: the verdict on the open job
pub record IsWrittenNo (c : CJob) (out : CNeeded) : Type 0 where
  pub address : ℕ
  pub reason : Reason
  pub judged : IsJudgedOpenly c (No address reason)
  pub out_is : out ≡ without_needs (verdict_for_c (No address reason))

-- ---- what is allowed

-- a bit of what the caller allows is on
abbrev pub Allows : ℕ → ℕ → Type 0
Allows allowed bit = bit_and allowed bit ≢ 0

-- whatever the program may do is allowed
pub record AllowsDeeds (allowed : ℕ) (r : Remarks) : Type 0 where
  pub hanging : IsSome r.hangs → Allows allowed codes.ALLOW_HANGING
  pub interrupting : IsSome r.interrupts → Allows allowed codes.ALLOW_INTERRUPTING
  pub ending_chains : IsSome r.ends_chaining → Allows allowed codes.ALLOW_ENDING_CHAINS

-- the first that isn't allowed: that it may go on until it is halted, else that it interrupts, else
-- that it ends a chain; and where
abbrev pub IsDeedRefused : ℕ → Remarks → CRefusal → Type 0
IsDeedRefused allowed r out =
    ((p : Place) × (r.hangs ≡ Some p) × (Allows allowed codes.ALLOW_HANGING → ⊥)
    × (out ≡ refused codes.REFUSED_MAY_HANG p.address))
    ⊎ ((IsSome r.hangs → Allows allowed codes.ALLOW_HANGING)
    × (a : ℕ) × (r.interrupts ≡ Some a) × (Allows allowed codes.ALLOW_INTERRUPTING → ⊥)
    × (out ≡ refused codes.REFUSED_INTERRUPTS a))
    ⊎ ((IsSome r.hangs → Allows allowed codes.ALLOW_HANGING)
    × (IsSome r.interrupts → Allows allowed codes.ALLOW_INTERRUPTING)
    × (a : ℕ) × (r.ends_chaining ≡ Some a) × (Allows allowed codes.ALLOW_ENDING_CHAINS → ⊥)
    × (out ≡ refused codes.REFUSED_ENDS_CHAINING a))

-- each kept byte lies in the user's own areas, so that a write elsewhere meets none; and whatever
-- the program may do is allowed
pub record MayBeTakenIn (own : List Area) (allowed : ℕ) (keep : List Area) (r : Remarks) : Type 0
  where
    pub inside : (b : ℕ) → IsKeptOutside keep own b → ⊥
    pub spared : SparesOutside keep own
    pub deeds : AllowsDeeds allowed r

-- it isn't: the least byte that is kept elsewhere, else the first that the program mustn't do
abbrev pub IsIntakeRefusal : List Area → ℕ → List Area → Remarks → CRefusal → Type 0
IsIntakeRefusal own allowed keep r out =
    ((b : ℕ) × IsLeastOf (IsKeptOutside keep own) b
    × (out ≡ refused codes.REFUSED_KEEPS_OUTSIDE b))
    ⊎ (((b : ℕ) → IsKeptOutside keep own b → ⊥) × IsDeedRefused allowed r out)

-- some job will do, but not all is allowed, and this is told: all but the lists, and the refusal
pub record IsWrittenRefusal (c : CJob) (own : List Area) (allowed : ℕ) (out : CNeeded) : Type 0
  where
    pub needs : Listed
    pub remarks : Remarks
    pub needed : AreNeedsOf c needs remarks
    pub refused : IsIntakeRefusal own allowed needs.keep remarks out.refusal
    pub out_is : out ≡ record (needs_for_c needs remarks) { refusal = out.refusal }

-- the list stands first; what stood behind them stands there still
abbrev pub StandFirst : {X : Type 0} → List X → List X → List X → Type 0
StandFirst list old new = new ≡ list ++ drop (length list) old

-- each list has room, and there is room for the bytes that are kept
pub record HaveRoomForNeeds (n : Listed) (runs : List Extent) (fetched stored areas : List Area)
    (bytes : List ℕ) : Type 0 where
  pub extents : length n.extents ≤ length runs
  pub fetch : length n.fetch ≤ length fetched
  pub store : length n.store ≤ length stored
  pub keep : length n.keep ≤ length areas
  pub kept : total_len n.keep ≤ length bytes

-- ---- over a copy

-- d asks for the program of c over another storage, which is as long and holds these bytes; what c
-- grants doesn't matter
pub record AsksOverCopy (c : CJob) (copy : List ℕ) (d : CJob) : Type 0 where
  pub storage : d.storage.now ≡ copy
  pub same_length : length copy ≡ length c.storage.now
  pub start : d.start ≡ c.start
  pub device : d.device ≡ c.device
  pub limit : d.limit ≡ c.limit

-- the copy with the bytes of storage s in an area, if the area lies in both
abbrev pub with_area : List ℕ → Area → List ℕ → List ℕ
with_area s a copy =
    if nat_le (a.start + a.len) (length s) && nat_le (a.start + a.len) (length copy)
    then (take a.start copy ++ take a.len (drop a.start s)) ++ drop (a.start + a.len) copy
    else copy

-- the same for some areas, one after another
abbrev pub with_areas : List ℕ → List Area → List ℕ → List ℕ
with_areas s [] copy = copy
with_areas s (a ∷ areas) copy = with_areas s areas (with_area s a copy)

-- the program of c doesn't keep just these areas: it can't be judged, no job will do for it, or it
-- keeps others
abbrev pub KeepsOtherAreas : CJob → List Area → Type 0
KeepsOtherAreas c areas =
    ((e : Refusal) × (e ≢ Memory) × IsRefusal (HasTooManyOpenly c) c e)
    ⊎ ((a : ℕ) × (r : Reason) × IsJudgedOpenly c (No a r))
    ⊎ ((n : Listed) × (r : Remarks) × AreNeedsOf c n r × (n.keep ≢ areas))

-- these are the needs over each storage that is as long and holds the bytes that were kept
abbrev pub AreNeedsWhereHeld : CJob → Listed → List ℕ → Type 0
AreNeedsWhereHeld c n kept =
    (k : Job) → k.start ≡ c.start → device_number k.device ≡ c.device
    → length (storage_of k) ≡ length c.storage.now → HoldsAreas (storage_of k) n.keep kept
    → AreNeeds k n

-- the program of c keeps and may do only what is allowed, its needs are told, all their lists and
-- the kept bytes are written, and they are the needs wherever these bytes are held
pub record AreWrittenNeeds (c : CJob) (own : List Area) (allowed : ℕ) (out : CNeeded)
    (runs new_runs : List Extent)
    (fetched new_fetched stored new_stored areas new_areas : List Area)
    (bytes new_bytes : List ℕ)
    : Type 0 where
  pub needs : Listed
  pub remarks : Remarks
  pub found : AreNeedsForC c needs remarks out
  pub is_allowed : MayBeTakenIn own allowed needs.keep remarks
  pub extents : StandFirst (map extent_for_c needs.extents) runs new_runs
  pub fetch : StandFirst needs.fetch fetched new_fetched
  pub store : StandFirst needs.store stored new_stored
  pub keep : StandFirst needs.keep areas new_areas
  pub kept : StandFirst (bytes_in c.storage.now needs.keep) bytes new_bytes
  pub held : HoldsAreas c.storage.now needs.keep new_bytes
  pub stays : AreNeedsWhereHeld c needs new_bytes

-- the needs of the program of c are told, but there is too little room for the lists and the bytes
pub record HaveTooLittleRoom (c : CJob) (out : CNeeded) (runs : List Extent)
    (fetched stored areas : List Area) (bytes : List ℕ) : Type 0 where
  pub needs : Listed
  pub remarks : Remarks
  pub found : AreNeedsForC c needs remarks out
  pub room : HaveRoomForNeeds needs runs fetched stored areas bytes → ⊥
