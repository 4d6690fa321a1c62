-- The evidence for an offence, and the path that shows what is changed.
use Rattle.std.specs.Prelude.{◌≡◌, ℕ, ◌+◌, ◌<◌, ◌≤◌, List, [], Option}
use Rattle.ccw_core.specs.declared.areas.Area.{Area}
use Rattle.ccw_core.specs.Areas.{end_of}
use Rattle.ccw_core.specs.Storage.{Stands}
use Rattle.chan_areas.specs.Merged.{IsLeastOf}
use Rattle.chan_walk.specs.declared.argument.GivenBytes.{GivenBytes}
use Rattle.chan_walk.specs.declared.evidence.Evidence.{Evidence}
use Rattle.chan_walk.specs.declared.evidence.Evidence.TheVariants as because
use Rattle.chan_walk.specs.declared.job.Job.{Job}
use Rattle.chan_walk.specs.declared.offence.Offence.{Offence}
use Rattle.chan_walk.specs.declared.place.Place.{Place}
use Rattle.chan_walk.specs.Evidence.{IsArgumentAt, IsOwnEvidence, reason_of}
use Rattle.chan_walk.specs.Guard.{IsArgumentByteOf}
use Rattle.chan_walk.specs.Guarded.{IsArgumentByte}
use Rattle.chan_walk.specs.Job.{storage_of}
use Rattle.chan_walk.specs.Place.{data_at}
use Rattle.chan_walk.specs.Reachable.{IsReachable}
use Rattle.chan_why.specs.Path.{ArePathWhere, IsPathWhere}

-- a reachable CCW stands at a, and the data has a byte of it
pub record IsCcwIn (j : Job) (range : Area) (a : ℕ) : Type 0 where
  pub place : Place
  pub reached : IsReachable j place
  pub address : place.address ≡ a
  pub stands : Stands (storage_of j) a
  pub filled : 0 < range.len
  pub from : range.start < a + 8
  pub below : a < end_of range

-- the byte at b is the argument of a reachable place, and the data has it
pub record IsArgumentIn (j : Job) (range : Area) (b : ℕ) : Type 0 where
  pub from : range.start ≤ b
  pub below : b < end_of range
  pub argument : IsArgumentByte j b

-- before lead to taker on the path to a place that takes the byte at b as its argument
abbrev pub IsPathToTaker : Job → ℕ → Place → List Place → Type 0
IsPathToTaker j b taker before = IsPathWhere j (λ q. IsArgumentByteOf j q b) taker before

-- that path ends at the address a, with a seek of this argument or with a Set File Mask
abbrev pub IsTakenAt : Job → ℕ → ℕ → Option GivenBytes → Type 0
IsTakenAt j b a argument =
    (taker : Place) × (before : List Place) × IsPathToTaker j b taker before
    × (taker.address ≡ a) × IsArgumentAt j taker argument

-- its values are those of the place
abbrev pub IsEvidenceAt : Job → Place → Evidence → Type 0
IsEvidenceAt j p (because.ChangesCcw range ccw) =
    (range ≡ data_at j p) × IsLeastOf (IsCcwIn j range) ccw
IsEvidenceAt j p (because.ChangesArgument range b taker argument) =
    (range ≡ data_at j p) × IsLeastOf (IsArgumentIn j range) b × IsTakenAt j b taker argument
IsEvidenceAt j p e = IsOwnEvidence j p e

-- it is the evidence for this offence
abbrev pub IsEvidence : Job → Offence → Evidence → Type 0
IsEvidence j o e = (reason_of e ≡ o.reason) × IsEvidenceAt j o.place e

-- ---- the second path

-- the places of the path to what is changed: to the CCW that is stored over, or to a place that
-- takes the argument; no places for other evidence
abbrev pub IsSecondPath : Job → Evidence → List Place → Type 0
IsSecondPath j (because.ChangesCcw range ccw) places = ArePathWhere j (λ q. q.address ≡ ccw) places
IsSecondPath j (because.ChangesArgument range b taker argument) places =
    ArePathWhere j (λ q. IsArgumentByteOf j q b) places
IsSecondPath j _ places = places ≡ []
