-- A CCW at a place, with the command that begins there and the kind of its operation.
use Rattle.std.specs.Prelude.{◌≡◌, ℕ, List, Option, None, Some, option_map, if◌then◌else◌}
use Rattle.ccw_core.specs.Ccw.{Fields}
use Rattle.ccw_core.specs.Storage.{ccw_at}
use Rattle.ckd_core.specs.declared.command.Kind.{Kind}
use Rattle.ckd_core.specs.declared.command.Kind.TheVariants.{Inward, Outward, Search}
use Rattle.ckd_core.specs.Entries.{entry_of}
use Rattle.ckd_core.specs.Command.{CommandEntry, lookup}
use Rattle.chan_walk.specs.declared.place.Entry.{Entry}
use Rattle.chan_walk.specs.declared.place.Entry.TheVariants.{Fresh, ChainIn, ChainOut, ChainSearch}
use Rattle.chan_walk.specs.declared.place.Place.{Place}
use Rattle.chan_walk.specs.declared.visit.Visit.{Visit}
use Rattle.chan_walk.specs.Fault.{kind_of, kind_of_command}
use Rattle.chan_walk.specs.Place.{is_fresh}

-- the command of the table that begins at p with the CCW c: none under data chaining, and none
-- where the table hasn't the code
abbrev pub begun : Place → Fields → Option CommandEntry
begun p c = if is_fresh p.entered then lookup c.command else None

-- the same, where a CCW stands
abbrev pub begun_at : Place → Option Fields → Option CommandEntry
begun_at p None = None
begun_at p (Some c) = begun p c

-- the kind of a CCW entered in a way, by the command that begins with it
abbrev pub kind_by : Entry → Option CommandEntry → Kind
kind_by Fresh command = kind_of_command command
kind_by ChainIn command = Inward
kind_by ChainOut command = Outward
kind_by ChainSearch command = Search

-- the command and the kind are those of the CCW at the place
pub record IsBegun (v : Visit) : Type 0 where
  pub command : option_map entry_of v.command ≡ begun v.place v.ccw
  pub kind : v.kind ≡ kind_of v.place.entered v.ccw

-- and the CCW is the one that stands there
pub record IsVisit (s : List ℕ) (v : Visit) : Type 0 where
  pub begun : IsBegun v
  pub stands : ccw_at s v.place.address ≡ Some v.ccw
