-- What the answers to C promise.
use Rattle.std.specs.Prelude.{◌≡◌, ◌≢◌, ◌<◌, ◌≤◌, ◌⊎◌, ℕ, List, ◌++◌, drop, length, map}
use Rattle.chan_walk.specs.declared.job.Job.{Job}
use Rattle.chan_walk.specs.declared.walk_error.WalkError.{WalkError}
use Rattle.chan_walk.specs.declared.walk_error.WalkError.TheVariants as walk
use Rattle.chan_walk.specs.declared.place.Place.{Place}
use Rattle.chan_walk.specs.declared.reason.Reason.{Reason}
use Rattle.chan_walk.specs.declared.verdict.Verdict.{Verdict}
use Rattle.chan_walk.specs.declared.verdict.Verdict.TheVariants.{No}
use Rattle.chan_walk.specs.Answers.{IsAnswer}
use Rattle.chan_walk.specs.Places.{AreReachable, HasMoreThan, entry_number, transfer_number}
use Rattle.chan_walk.specs.Reason.{number_of}
use Rattle.chanv_c.specs.declared.c_job.CJob.{CJob}
use Rattle.chanv_c.specs.declared.refusal.Refusal.{Refusal}
use Rattle.chanv_c.specs.declared.refusal.Refusal.TheVariants.{TooManyPlaces, Memory, Wrong}
use Rattle.chanv_c.specs.declared.c_place.CPlace.{CPlace}
use Rattle.chanv_c.specs.Job.{IsAskedJob}
use Rattle.chanv_c.specs.Faults.{HasNoFault, HasNoFaultBelow, IsFirstFault, HasFaultCode}
use Rattle.chanv_c.specs.Faults.{fault_code, fault_extent}
use Rattle.chanv_c.specs.declared.codes.TheConstants as codes

-- the verdict on the job that C asks about, with all that an answer promises
pub record IsJudged (c : CJob) (v : Verdict) : Type 0 where
  pub job : Job
  pub asked : IsAskedJob c job
  pub answer : IsAnswer job v

-- the verdict is no, with this address and the reason of this number
pub record IsJudgedNo (c : CJob) (address number : ℕ) : Type 0 where
  pub reason : Reason
  pub number_is : number_of reason ≡ number
  pub judged : IsJudged c (No address reason)

-- more places are reachable than the limit
pub record HasTooMany (c : CJob) : Type 0 where
  pub job : Job
  pub asked : IsAskedJob c job
  pub many : HasMoreThan job c.limit

-- a place for C
abbrev pub place_for_c : Place → CPlace
place_for_c p =
    record {
      address = p.address;
      entered = entry_number p.entered;
      after_transfer = transfer_number p.after_transfer;
      unused = 0;
    }

-- the reachable places, each once, in order; no more than the job's limit
pub record AreJobPlaces (c : CJob) (places : List Place) : Type 0 where
  pub job : Job
  pub asked : IsAskedJob c job
  pub are : AreReachable job places
  pub few : length places ≤ c.limit

-- so many places are reachable
pub record HasPlaces (c : CJob) (count : ℕ) : Type 0 where
  pub places : List Place
  pub found : AreJobPlaces c places
  pub count_is : length places ≡ count

-- the reachable places, so many, stand first; what stood behind them stands there still
pub record AreListed (c : CJob) (count : ℕ) (old new : List CPlace) : Type 0 where
  pub places : List Place
  pub found : AreJobPlaces c places
  pub count_is : length places ≡ count
  pub written : new ≡ map place_for_c places ++ drop count old

-- what a walk that gave no answer comes to
abbrev pub refusal_after : WalkError → Refusal
refusal_after walk.TooManyPlaces = TooManyPlaces
refusal_after walk.Memory = Memory

-- the number of a refusal in the header
abbrev pub refusal_code : Refusal → ℕ
refusal_code TooManyPlaces = codes.TOO_MANY_PLACES
refusal_code Memory = codes.MEMORY
refusal_code (Wrong f) = fault_code f

-- the index of the extent that is wrong, else 0
abbrev pub refusal_extent : Refusal → ℕ
refusal_extent TooManyPlaces = 0
refusal_extent Memory = 0
refusal_extent (Wrong f) = fault_extent f

-- what a refusal says of the job, by what it says that too many places are reachable. The
-- faults with lower numbers than a backward extent are looked for before memory is taken, so an
-- allocation is refused only without them
abbrev pub IsRefusal : Type 0 → CJob → Refusal → Type 0
IsRefusal crowded c TooManyPlaces = crowded × HasNoFault c
IsRefusal crowded c Memory = HasNoFaultBelow c codes.EXTENT_BACKWARDS
IsRefusal crowded c (Wrong f) = IsFirstFault c f

-- what the number of an answer says, and the extent told with it: that too many places are
-- reachable; that no fault comes before memory is taken; or that the job has the fault of this
-- number first. A job that has a fault gets no answer, nor is there too little room for one
pub record IsAnswerCode (crowded : Type 0) (c : CJob) (code extent : ℕ) : Type 0 where
  pub many : code ≡ codes.TOO_MANY_PLACES → crowded
  pub memory : code ≡ codes.MEMORY → HasNoFaultBelow c codes.EXTENT_BACKWARDS
  pub refused : codes.STORAGE_TOO_LARGE ≤ code → code ≢ codes.NO_ROOM → HasFaultCode c code extent
  pub accepted : (code < codes.MEMORY) ⊎ (code ≡ codes.NO_ROOM) → HasNoFault c
  pub last : code ≤ codes.NO_ROOM
