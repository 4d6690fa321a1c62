-- The values of a cause as C is told them.
use Rattle.std.specs.Prelude.{ℕ, [], ◌∷◌, Option, Some, None}
use Rattle.ccw_core.specs.declared.areas.Area.{Area}
use Rattle.chan_walk.specs.declared.evidence.Evidence.{Evidence}
use Rattle.chan_walk.specs.declared.evidence.Evidence.TheVariants as because
use Rattle.chan_walk.specs.declared.evidence.Outside.{Outside}
use Rattle.chan_walk.specs.declared.evidence.Outside.TheVariants.{Bin, Cylinder, Head}
use Rattle.chan_walk.specs.declared.argument.GivenBytes.{GivenBytes}
use Rattle.chan_walk.specs.Evidence.{reason_of}
use Rattle.chan_walk.specs.Reason.{number_of}
use Rattle.chanv_c.specs.declared.c_evidence.CEvidence.{CEvidence}

-- an area of no bytes, which stands where there is none
abbrev pub no_area : Area
no_area = record { start = 0; len = 0 }

-- no value
abbrev pub no_values : CEvidence
no_values = record {
  reason = 0;
  range = no_area;
  gap = no_area;
  address = 0;
  taker = 0;
  storage_len = 0;
  code = 0;
  bits = 0;
  given = 0;
  outside = 0;
  value = 0;
  below = 0;
  sets_mask = 0;
  addresses = 0 ∷ 0 ∷ 0 ∷ 0 ∷ 0 ∷ 0 ∷ [];
  bytes = 0 ∷ 0 ∷ 0 ∷ 0 ∷ 0 ∷ 0 ∷ [];
  mask = 0;
  unused = 0;
}

-- 0 for a seek, which has an argument, and 1 for a Set File Mask
abbrev pub set_mask_number : Option GivenBytes → ℕ
set_mask_number (Some g) = 0
set_mask_number None = 1

-- how many bytes of an argument there are, where they stand, and they themselves
abbrev pub given_values : GivenBytes → CEvidence
given_values g = record no_values { given = g.count; addresses = g.addresses; bytes = g.bytes }

-- the same of the argument of a seek, where one is told
abbrev pub argument_values : Option GivenBytes → CEvidence
argument_values None = no_values
argument_values (Some g) = given_values g

-- beside some values a bin, a cylinder or a head by its number, and for a head the device's number
-- of heads
abbrev pub outside_values : Outside → CEvidence → CEvidence
outside_values (Bin n) v = record v { outside = 1; value = n }
outside_values (Cylinder n) v = record v { outside = 2; value = n }
outside_values (Head n m) v = record v { outside = 3; value = n; below = m }

-- the values of a cause, each in the field that the header says; the other fields are 0
abbrev pub values_of : Evidence → CEvidence
values_of (because.Misaligned a) = record no_values { address = a }
values_of (because.OutsideStorage ccw n) = record no_values { range = ccw; storage_len = n }
values_of (because.TransferNotAllowed first) = no_values
values_of (because.InvalidCode code) = record no_values { code = code }
values_of (because.BadFormat bits) = record no_values { bits = bits }
values_of because.ZeroCount = no_values
values_of (because.DataOutside range n) = record no_values { range = range; storage_len = n }
values_of (because.NotInTable code) = record no_values { code = code }
values_of (because.Inhibited mask code) = record no_values { mask = mask; code = code }
values_of (because.StoreNotLent range gap) = record no_values { range = range; gap = gap }
values_of (because.FetchNotLent range gap) = record no_values { range = range; gap = gap }
values_of (because.ShortSeek g) = given_values g
values_of (because.SeekOutside outside argument) =
    outside_values outside (argument_values argument)
values_of (because.ChangesCcw range ccw) = record no_values { range = range; address = ccw }
values_of (because.ChangesArgument range b taker argument) =
    record (argument_values argument) {
      range = range;
      address = b;
      taker = taker;
      sets_mask = set_mask_number argument;
    }
values_of (because.WeakensMask b mask) = record no_values { value = b; mask = mask }

-- the number of the reason, and the values
abbrev pub fields_of : Evidence → CEvidence
fields_of e = record (values_of e) { reason = number_of (reason_of e) }

-- no reason and no value where there is no cause
abbrev pub cause_for_c : Option Evidence → CEvidence
cause_for_c None = no_values
cause_for_c (Some e) = fields_of e
