-- Program checks: what the channel finds wrong with a CCW before it carries it out
-- (System/360 Principles of Operation, A22-6821; that the whole data range has to lie in storage is
-- this project's choice).
use Rattle.std.specs.Prelude.{ℕ, Bool, not, ◌&&◌, List, [], ◌∷◌, length, Option, Some, None}
use Rattle.std.specs.Prelude.{if◌then◌else◌}
use Rattle.std.specs.Option.{option_or}
use Rattle.ccw_core.specs.Ccw.{Fields, ccw, is_transfer, is_invalid, is_formed, has_count}
use Rattle.ccw_core.specs.Ccw.{has_data_in}
use Rattle.ccw_core.specs.Storage.{is_aligned, is_inside}
use Rattle.chan_walk.specs.declared.place.Place.{Place}
use Rattle.chan_walk.specs.declared.reason.Reason.{Reason}
use Rattle.chan_walk.specs.declared.reason.Reason.TheVariants.{Misaligned, OutsideStorage}
use Rattle.chan_walk.specs.declared.reason.Reason.TheVariants.{TransferNotAllowed, InvalidCode}
use Rattle.chan_walk.specs.declared.reason.Reason.TheVariants.{BadFormat, ZeroCount, DataOutside}
use Rattle.chan_walk.specs.Place.{is_fresh}

-- the reason of the first test of a table that is true
abbrev pub first_reason : List (Bool × Reason) → Option Reason
first_reason [] = None
first_reason (t ∷ ts) = if t.0 then Some t.1 else first_reason ts

-- what is looked at in every CCW c at a place of n bytes of storage
abbrev pub table_of_every_ccw : ℕ → Place → Fields → List (Bool × Reason)
table_of_every_ccw n p c =
    (not (is_aligned p.address), Misaligned) ∷
    (not (is_inside n p.address), OutsideStorage) ∷
    (is_transfer c && p.after_transfer, TransferNotAllowed) ∷ []

-- what is looked at besides in a CCW that is no transfer; under data chaining its command code
-- doesn't count
abbrev pub table_of_non_transfer : ℕ → Place → Fields → List (Bool × Reason)
table_of_non_transfer n p c =
    (is_fresh p.entered && is_invalid c, InvalidCode) ∷
    (not (is_formed c), BadFormat) ∷
    (not (has_count c), ZeroCount) ∷
    (not (has_data_in n c), DataOutside) ∷ []

-- the program check of the CCW c at a place of n bytes of storage
unfoldable pub program_check_of : ℕ → Place → Fields → Option Reason
program_check_of n p c =
    option_or (first_reason (table_of_every_ccw n p c))
    (if is_transfer c then None else first_reason (table_of_non_transfer n p c))

-- the program check of a place, in storage as it is at that moment
abbrev pub program_check : List ℕ → Place → Option Reason
program_check s p = program_check_of (length s) p (ccw s p.address)
