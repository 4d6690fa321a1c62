-- All offences of a job, in order: the first of them is the verdict.
use Rattle.std.specs.Prelude.{◌≡◌, ℕ, ◌+◌, ◌*◌, true, List, [], ◌∷◌, ◌++◌, map, Some, ◌↔◌}
use Rattle.std.specs.List.Sorted.{IsStrictlyIncreasing}
use Rattle.ccw_core.specs.declared.areas.Area.{Area}
use Rattle.ccw_core.specs.Ccw.{Fields}
use Rattle.chan_walk.specs.declared.direction.Direction.TheVariants.{Store}
use Rattle.chan_walk.specs.declared.job.Job.{Job}
use Rattle.chan_walk.specs.declared.offence.Offence.{Offence}
use Rattle.chan_walk.specs.declared.place.Place.{Place}
use Rattle.chan_walk.specs.declared.reason.Reason.{Reason}
use Rattle.chan_walk.specs.declared.verdict.Verdict.{Verdict}
use Rattle.chan_walk.specs.declared.verdict.Verdict.TheVariants.{Yes, No}
use Rattle.chan_walk.specs.Argument.{Has}
use Rattle.chan_walk.specs.Fault.{HasFault}
use Rattle.chan_walk.specs.Places.{AreDistinct, way_of}
use Rattle.chan_walk.specs.Direction.{is_direction}
use Rattle.chan_walk.specs.Look.{Seen}
use Rattle.chan_areas.specs.Merged.{Meets}
use Rattle.chan_walk.specs.Reachable.{IsReachable}
use Rattle.chan_walk.specs.Reason.{number_of}
use Rattle.chan_walk.specs.Verdict.{Offends, IsVerdict}

-- p has this own fault
abbrev pub HasOwnFault : Job → Place → Reason → Type 0
HasOwnFault j p r = HasFault j p (Some r)

-- the place is reachable, and offends by the reason
abbrev pub Offending : Job → Offence → Type 0
Offending j o = IsReachable j o.place × Offends j o.place o.reason

-- offences are in order as these numbers are: by address, then by the reason's number, then by the
-- way in which the place is entered
abbrev pub offence_number : Offence → ℕ
offence_number o = (o.place.address * 32 + number_of o.reason) * 8 + way_of o.place

-- the offence of the place that was seen, by a reason
abbrev pub seen_offence : Seen → Reason → Offence
seen_offence l r = record { place = l.place; reason = r }

-- the list has exactly the job's offences, each once
pub record AreAllOffences (j : Job) (os : List Offence) : Type 0 where
  pub exactly : (o : Offence) → Has os o ↔ Offending j o
  pub distinct : AreDistinct os

-- and in order
pub record AreOffences (j : Job) (os : List Offence) : Type 0 where
  pub ordered : IsStrictlyIncreasing (map offence_number os)
  pub each : (o : Offence) → Offending j o → Has os o
  pub only : (o : Offence) → Has os o → Offending j o

-- the verdict that a list of offences gives: the address and the reason of the first, or yes where
-- there is none
abbrev pub first_verdict : List Offence → Verdict
first_verdict [] = Yes
first_verdict (o ∷ os) = No o.place.address o.reason

-- the first offence is the verdict, and no offence is yes
abbrev pub FirstIsVerdict : Type 0
FirstIsVerdict = (j : Job) (os : List Offence) → AreOffences j os → IsVerdict j (first_verdict os)

-- ---- place by place

-- new is old with the reasons by which p offends in this way, each once, at its end
pub record AddsOffences (Off : Place → Reason → Type 0) (p : Place) (old new : List Offence)
    : Type 0 where
  pub more : List Offence
  pub is : new ≡ old ++ more
  pub exactly : (o : Offence) → Has more o ↔ ((o.place ≡ p) × Off p o.reason)
  pub distinct : AreDistinct more

-- the list has exactly the offences of this kind among the places, each once
pub record HasOffences (Off : Place → Reason → Type 0) (ps : List Place) (os : List Offence)
    : Type 0 where
  pub exactly : (o : Offence) → Has os o ↔ (Has ps o.place × Off o.place o.reason)
  pub distinct : AreDistinct os

-- the CCW that was seen stores into some area of the list
pub record StoresInto (l : Seen) (areas : List Area) : Type 0 where
  pub ccw : Fields
  pub seen : l.ccw ≡ Some ccw
  pub stores : is_direction Store l.direction ≡ true
  pub meets : Meets areas ccw.address ccw.count
