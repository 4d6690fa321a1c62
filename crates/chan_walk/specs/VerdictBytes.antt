-- The bytes of storage on which a verdict rests; another storage that holds the same in them gets
-- the same verdict. `Guarded` has them side by side with other sets of bytes.
use Rattle.std.specs.Prelude.{◌≡◌, ℕ, ◌+◌, ◌<◌, ◌≤◌, true, false, List, Some, ◌⊎◌, ◌↔◌}
use Rattle.ccw_core.specs.declared.storage.Storage.{Storage}
use Rattle.ccw_core.specs.Ccw.{ccw, chains_data}
use Rattle.ccw_core.specs.Held.{bytes_held}
use Rattle.ccw_core.specs.Storage.{Stands}
use Rattle.chan_walk.specs.declared.job.Job.{Job}
use Rattle.chan_walk.specs.declared.place.Place.{Place}
use Rattle.chan_walk.specs.declared.reason.Reason.{Reason}
use Rattle.chan_walk.specs.declared.verdict.Verdict.{Verdict}
use Rattle.chan_walk.specs.declared.verdict.Verdict.TheVariants.{Yes}
use Rattle.chan_walk.specs.Argument.{is_part, ChainLeads}
use Rattle.chan_walk.specs.Fault.{HasFault, begins_seek, begins_set_mask}
use Rattle.chan_walk.specs.Guarded.{IsCcwByte, TakesArgumentByte, IsGuarded}
use Rattle.chan_walk.specs.Headline.{AreSafe, AreSteady, EachMomentOfYes}
use Rattle.chan_walk.specs.Job.{storage_of, HasMask}
use Rattle.chan_walk.specs.Place.{ccw_of, first_place}
use Rattle.chan_walk.specs.Reachable.{IsReachable}
use Rattle.chan_walk.specs.Runs.{IsRunAmong, IsSameIn}
use Rattle.chan_walk.specs.Verdict.{IsVerdict}

-- data chaining leads from the CCW at a to the one at an address, in any number of steps
pub data IsChained (s : List ℕ) (a : ℕ) : ℕ → Type 0 where
  at_once : IsChained s a a
  further : {b d : ℕ} → IsChained s a b → is_part s b ≡ true → chains_data (ccw s b) ≡ true →
      ChainLeads s b d → IsChained s a d

-- the byte at b belongs to a CCW to which data chaining leads from a reachable seek
pub record IsChainByte (j : Job) (b : ℕ) : Type 0 where
  pub seek : Place
  pub reached : IsReachable j seek
  pub seeks : begins_seek seek (ccw_of j seek) ≡ true
  pub at : ℕ
  pub chained : IsChained (storage_of j) seek.address at
  pub stands : Stands (storage_of j) at
  pub from : at ≤ b
  pub below : b < at + 8

-- the byte at b is one that a reachable place takes: a seek as one of its six, or Set File Mask
pub record IsTakenByte (j : Job) (b : ℕ) : Type 0 where
  pub place : Place
  pub reached : IsReachable j place
  pub takes : TakesArgumentByte (storage_of j) place b

-- the byte at b is a verdict byte: it belongs to a reachable CCW, to the data chain of a reachable
-- seek, or to what a reachable place takes
abbrev pub IsVerdictByte : Job → ℕ → Type 0
IsVerdictByte j b = IsCcwByte j b ⊎ IsChainByte j b ⊎ IsTakenByte j b

-- the same job over another storage
abbrev pub with_storage : Job → Storage → Job
with_storage j t = record j { storage = t }

-- over each other storage that is the same in the verdict bytes, the same places are reachable
-- and the verdict is the same
abbrev pub SameVerdict : Type 0
SameVerdict = (j : Job) (t : Storage) → IsSameIn (IsVerdictByte j) (storage_of j) (bytes_held t) →
    ((p : Place) → IsReachable j p ↔ IsReachable (with_storage j t) p)
    × ((v : Verdict) → IsVerdict j v ↔ IsVerdict (with_storage j t) v)

-- and after a no they are no more than that: where the first CCW has an own fault, and begins
-- neither a seek nor Set File Mask, the verdict rests on its eight bytes alone
abbrev pub FaultyStartIsAll : Type 0
FaultyStartIsAll =
    (j : Job) (r : Reason) (b : ℕ) → HasFault j (first_place j) (Some r)
    → begins_seek (first_place j) (ccw_of j (first_place j)) ≡ false
    → begins_set_mask (first_place j) (ccw_of j (first_place j)) ≡ false
    → IsVerdictByte j b → (j.start ≤ b) × (b < j.start + 8)

-- nor are they more elsewhere: each belongs to a reachable CCW, unless a reachable place takes an
-- argument
abbrev pub VerdictByteIsOfCcw : Type 0
VerdictByteIsOfCcw =
    (j : Job) (b : ℕ) → IsVerdictByte j b
    → IsCcwByte j b ⊎ ((p : Place) × IsReachable j p
    × ((begins_seek p (ccw_of j p) ≡ true) ⊎ (begins_set_mask p (ccw_of j p) ≡ true)))

-- under a yes each verdict byte is guarded
abbrev pub VerdictByteIsGuarded : Type 0
VerdictByteIsGuarded = (j : Job) → IsVerdict j Yes → (b : ℕ) → IsVerdictByte j b → IsGuarded j b

-- so a yes depends on the guarded bytes alone
abbrev pub YesByGuarded : Type 0
YesByGuarded =
    (j : Job) (t : Storage) → IsVerdict j Yes
    → IsSameIn (IsGuarded j) (storage_of j) (bytes_held t) → IsVerdict (with_storage j t) Yes

-- so a program may be asked about before it starts: if from the question on nothing else writes a
-- guarded byte, every run is safe and the job is steady over what storage holds at the start
abbrev pub SafeSinceAsked : Type 0
SafeSinceAsked =
    (j : Job) (t : Storage) → HasMask j → IsVerdict j Yes
    → IsSameIn (IsGuarded j) (storage_of j) (bytes_held t)
    → AreSafe (with_storage j t) (IsRunAmong (IsGuarded j) (with_storage j t))
    × AreSteady (with_storage j t) (IsRunAmong (IsGuarded j) (with_storage j t))

-- and it stays yes over what storage holds at any moment of any run: the program may start again
abbrev pub YesStays : Type 0
YesStays = EachMomentOfYes (λ j m.
    (t : Storage) → bytes_held t ≡ m.storage → IsVerdict (with_storage j t) Yes)
