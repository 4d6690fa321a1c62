-- The evidence for an offence, the values that show it; and which a place's own fault has.
use Rattle.std.specs.Prelude.{◌≡◌, ℕ, ◌+◌, ◌*◌, ◌%◌, ◌<◌, ◌≤◌, true, false, List, length}
use Rattle.std.specs.Prelude.{slice_index, Option, Some, None, ◌↔◌, IsTrue}
use Rattle.ccw_core.specs.Areas.{IsFirstGap}
use Rattle.ccw_core.specs.Ccw.{byte}
use Rattle.ckd_core.specs.Extents.{has_cylinder}
use Rattle.ckd_core.specs.Track.{has_no_bin, cylinder_of, head_of}
use Rattle.chan_walk.specs.declared.argument.GivenBytes.{GivenBytes}
use Rattle.chan_walk.specs.declared.evidence.Evidence.{Evidence}
use Rattle.chan_walk.specs.declared.evidence.Evidence.TheVariants as because
use Rattle.chan_walk.specs.declared.evidence.Outside.{Outside}
use Rattle.chan_walk.specs.declared.evidence.Outside.TheVariants.{Bin, Cylinder, Head}
use Rattle.chan_walk.specs.declared.job.Job.{Job}
use Rattle.chan_walk.specs.declared.place.Place.{Place}
use Rattle.chan_walk.specs.declared.reason.Reason.{Reason}
use Rattle.chan_walk.specs.declared.reason.Reason.TheVariants as reasons
use Rattle.chan_walk.specs.Argument.{ChainGives}
use Rattle.chan_walk.specs.Fault.{HasFault, allows, begins_seek}
use Rattle.chan_walk.specs.Job.{extents_of, fetch_of, heads, storage_of, store_of}
use Rattle.chan_walk.specs.Place.{ccw_of, data_at, first_place}
use Rattle.chan_walk.specs.Operand.{AreArgument, AreGiven}
use Rattle.chan_walk.specs.Seeks.{SeeksTo}

-- the two bytes of bin
abbrev pub bin_of : List ℕ → ℕ
bin_of x = slice_index x 0 * 256 + slice_index x 1

-- the first of three things that is wrong with an argument: a bin that isn't zero, a cylinder in no
-- extent, a head that the device hasn't
abbrev pub IsOutside : Job → List ℕ → Outside → Type 0
IsOutside j x (Bin n) = (n ≡ bin_of x) × (0 < n)
IsOutside j x (Cylinder n) =
    (has_no_bin x ≡ true) × (n ≡ cylinder_of x) × (has_cylinder (extents_of j) n ≡ false)
IsOutside j x (Head n m) =
    (has_no_bin x ≡ true) × (has_cylinder (extents_of j) (cylinder_of x) ≡ true)
    × (n ≡ head_of x) × (m ≡ heads j) × (m ≤ n)

-- that thing, or that the job allows the argument
abbrev pub IsOutsideOrAllowed : Job → List ℕ → Option Outside → Type 0
IsOutsideOrAllowed j x None = allows j x ≡ true
IsOutsideOrAllowed j x (Some o) = (allows j x ≡ false) × IsOutside j x o

-- the argument of the seek that begins at p, and none where no seek begins there
abbrev pub IsArgumentAt : Job → Place → Option GivenBytes → Type 0
IsArgumentAt j p None = begins_seek p (ccw_of j p) ≡ false
IsArgumentAt j p (Some g) =
    (begins_seek p (ccw_of j p) ≡ true) × AreArgument (storage_of j) p.address g

-- the reason that it is evidence for
abbrev pub reason_of : Evidence → Reason
reason_of (because.Misaligned a) = reasons.Misaligned
reason_of (because.OutsideStorage ccw n) = reasons.OutsideStorage
reason_of (because.TransferNotAllowed first) = reasons.TransferNotAllowed
reason_of (because.InvalidCode code) = reasons.InvalidCode
reason_of (because.BadFormat bits) = reasons.BadFormat
reason_of because.ZeroCount = reasons.ZeroCount
reason_of (because.DataOutside range n) = reasons.DataOutside
reason_of (because.NotInTable code) = reasons.NotInTable
reason_of (because.Inhibited mask code) = reasons.Inhibited
reason_of (because.StoreNotLent range gap) = reasons.StoreNotLent
reason_of (because.FetchNotLent range gap) = reasons.FetchNotLent
reason_of (because.ShortSeek given) = reasons.ShortSeek
reason_of (because.SeekOutside outside argument) = reasons.SeekOutside
reason_of (because.ChangesCcw range ccw) = reasons.ChangesCcw
reason_of (because.ChangesArgument range b taker argument) = reasons.ChangesArgument
reason_of (because.WeakensMask b mask) = reasons.WeakensMask

-- it is the evidence for an own fault, and its values are those of the place
abbrev pub IsOwnEvidence : Job → Place → Evidence → Type 0
IsOwnEvidence j p (because.Misaligned a) = a ≡ p.address
IsOwnEvidence j p (because.OutsideStorage ccw n) =
    (ccw ≡ record { start = p.address; len = 8 }) × (n ≡ length (storage_of j))
IsOwnEvidence j p (because.TransferNotAllowed first) = IsTrue first ↔ (p ≡ first_place j)
IsOwnEvidence j p (because.InvalidCode code) = code ≡ (ccw_of j p).command
IsOwnEvidence j p (because.BadFormat bits) = bits ≡ (ccw_of j p).flags % 8
IsOwnEvidence j p because.ZeroCount = Unit {0}
IsOwnEvidence j p (because.DataOutside range n) =
    (range ≡ data_at j p) × (n ≡ length (storage_of j))
IsOwnEvidence j p (because.NotInTable code) = code ≡ (ccw_of j p).command
IsOwnEvidence j p (because.Inhibited mask code) = (mask ≡ j.mask) × (code ≡ (ccw_of j p).command)
IsOwnEvidence j p (because.StoreNotLent range gap) =
    (range ≡ data_at j p) × IsFirstGap (store_of j) range gap
IsOwnEvidence j p (because.FetchNotLent range gap) =
    (range ≡ data_at j p) × IsFirstGap (fetch_of j) range gap
IsOwnEvidence j p (because.ShortSeek given) =
    ChainGives (storage_of j) p.address given.count × AreGiven (storage_of j) p.address given
IsOwnEvidence j p (because.SeekOutside outside argument) =
    ((x : List ℕ) × SeeksTo j p x × IsOutside j x outside) × IsArgumentAt j p argument
IsOwnEvidence j p (because.ChangesCcw range ccw) = ⊥
IsOwnEvidence j p (because.ChangesArgument range b taker argument) = ⊥
IsOwnEvidence j p (because.WeakensMask b mask) =
    (b ≡ byte (storage_of j) (ccw_of j p).address) × (mask ≡ j.mask)

-- a reason and its evidence at p go together: both are found, or neither is
abbrev pub GoTogether : Job → Place → Option Reason → Option Evidence → Type 0
GoTogether j p r None = r ≡ None
GoTogether j p r (Some e) = (r ≡ Some (reason_of e)) × IsOwnEvidence j p e

-- the own fault of p with its evidence, or that it has none
pub record IsOwnFault (j : Job) (p : Place) (o : Option Evidence) : Type 0 where
  pub reason : Option Reason
  pub fault : HasFault j p reason
  pub found : GoTogether j p reason o
