-- The own fault of a place: what is wrong with its CCW in the initial storage.
use Rattle.std.specs.Prelude.{◌≡◌, ℕ, Bool, true, false, not, ◌&&◌, ◌||◌, List, [], ◌∷◌, ◌++◌}
use Rattle.std.specs.Prelude.{Option, None, Some, is_some, is_none, if◌then◌else◌}
use Rattle.std.specs.Option.{option_or}
use Rattle.ccw_core.specs.Areas.{covered}
use Rattle.ccw_core.specs.Ccw.{byte, Fields, is_transfer, skips}
use Rattle.ckd_core.specs.declared.command.Kind.{Kind}
use Rattle.ckd_core.specs.declared.command.Kind.TheVariants.{Idle, Inward, Outward, Search}
use Rattle.ckd_core.specs.Track.{is_allowed}
use Rattle.ckd_core.specs.Extents.{has_cylinder}
use Rattle.ckd_core.specs.Mask.{inhibits, is_at_least}
use Rattle.ckd_core.specs.Command.{CommandEntry, lookup, is_seek, recalibrates, sets_mask}
use Rattle.chan_walk.specs.declared.job.Job.{Job}
use Rattle.chan_walk.specs.declared.place.Entry.{Entry}
use Rattle.chan_walk.specs.declared.place.Entry.TheVariants.{Fresh, ChainIn, ChainOut, ChainSearch}
use Rattle.chan_walk.specs.declared.place.Place.{Place}
use Rattle.chan_walk.specs.declared.reason.Reason.{Reason}
use Rattle.chan_walk.specs.declared.reason.Reason.TheVariants.{NotInTable, Inhibited, StoreNotLent}
use Rattle.chan_walk.specs.declared.reason.Reason.TheVariants.{FetchNotLent, ShortSeek, SeekOutside}
use Rattle.chan_walk.specs.declared.reason.Reason.TheVariants.{WeakensMask}
use Rattle.chan_walk.specs.Argument.{HasArgument}
use Rattle.chan_walk.specs.ProgramCheck.{first_reason, program_check}
use Rattle.chan_walk.specs.Job.{storage_of, extents_of, fetch_of, store_of, heads}
use Rattle.chan_walk.specs.Place.{is_fresh, ccw_of}

-- the kind of a command that was looked up; a code of no command moves nothing
abbrev pub kind_of_command : Option CommandEntry → Kind
kind_of_command None = Idle
kind_of_command (Some k) = k.kind

-- the kind of a CCW entered in a way: its command's where an operation begins, else that of the
-- operation that goes on
abbrev pub kind_of : Entry → Fields → Kind
kind_of Fresh c = kind_of_command (lookup c.command)
kind_of ChainIn c = Inward
kind_of ChainOut c = Outward
kind_of ChainSearch c = Search

-- the kind goes from the device into storage
abbrev pub goes_in : Kind → Bool
goes_in Inward = true
goes_in Idle = false
goes_in Outward = false
goes_in Search = false

-- the kind goes from storage to the device
abbrev pub goes_out : Kind → Bool
goes_out Outward = true
goes_out Search = true
goes_out Idle = false
goes_out Inward = false

-- the CCW c stores at a place: it is no transfer, its kind goes in, and skip is off
abbrev pub stores : Place → Fields → Bool
stores p c = not (is_transfer c) && goes_in (kind_of p.entered c) && not (skips c)

-- it fetches: it is no transfer, and its kind goes out
abbrev pub fetches : Place → Fields → Bool
fetches p c = not (is_transfer c) && goes_out (kind_of p.entered c)

-- the command code is in the table of commands
abbrev pub is_known : ℕ → Bool
is_known code = is_some (lookup code)

-- one of the three seeks begins
abbrev pub begins_seek : Place → Fields → Bool
begins_seek p c = is_fresh p.entered && is_seek c.command

-- Recalibrate begins, which seeks cylinder 0 and head 0
abbrev pub begins_recalibrate : Place → Fields → Bool
begins_recalibrate p c = is_fresh p.entered && recalibrates c.command

-- Set File Mask begins, which sets the byte at its data address
abbrev pub begins_set_mask : Place → Fields → Bool
begins_set_mask p c = is_fresh p.entered && sets_mask c.command

-- the job allows a seek with this argument
abbrev pub allows : Job → List ℕ → Bool
allows j x = is_allowed (extents_of j) (heads j) x

-- there is an argument, and the job doesn't allow it
abbrev pub is_refused : Job → Option (List ℕ) → Bool
is_refused j None = false
is_refused j (Some x) = not (allows j x)

-- what is looked at in a CCW c that is no transfer and meets no program check: the command that
-- begins there
abbrev pub command_faults : Job → Place → Fields → List (Bool × Reason)
command_faults j p c =
    (is_fresh p.entered && not (is_known c.command), NotInTable) ∷
    (is_fresh p.entered && inhibits j.mask c.command, Inhibited) ∷ []

-- the areas lent
abbrev pub lent_faults : Job → Place → Fields → List (Bool × Reason)
lent_faults j p c =
    (stores p c && not (covered (store_of j) c.address c.count), StoreNotLent) ∷
    (fetches p c && not (covered (fetch_of j) c.address c.count), FetchNotLent) ∷ []

-- the seek that begins there, where x is its argument
abbrev pub seek_faults : Job → Place → Fields → Option (List ℕ) → List (Bool × Reason)
seek_faults j p c x =
    (begins_seek p c && is_none x, ShortSeek) ∷ (
      (begins_seek p c && is_refused j x)
          || (begins_recalibrate p c && not (has_cylinder (extents_of j) 0)),
      SeekOutside,
    ) ∷ []

-- and the mask that is set there; commands are judged by the job's mask before it and after it
abbrev pub mask_faults : Job → Place → Fields → List (Bool × Reason)
mask_faults j p c =
    (begins_set_mask p c && not (is_at_least (byte (storage_of j) c.address) j.mask), WeakensMask)
    ∷ []

abbrev pub table_of_own : Job → Place → Fields → Option (List ℕ) → List (Bool × Reason)
table_of_own j p c x =
    command_faults j p c ++ lent_faults j p c ++ seek_faults j p c x ++ mask_faults j p c

-- the own fault, where x is the argument of a seek at the place
abbrev pub fault_with : Job → Place → Option (List ℕ) → Option Reason
fault_with j p x =
    option_or (program_check (storage_of j) p)
    (if is_transfer (ccw_of j p) then None else first_reason (table_of_own j p (ccw_of j p) x))

-- the own fault of a place, or that it has none
abbrev pub HasFault : Job → Place → Option Reason → Type 0
HasFault j p r =
    (x : Option (List ℕ)) × HasArgument (storage_of j) p.address x × (fault_with j p x ≡ r)

-- the place has no own fault
abbrev pub IsClear : Job → Place → Type 0
IsClear j p = HasFault j p None
