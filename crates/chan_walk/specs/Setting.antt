-- What the operation that begins at a place sets when it is carried out: where the arm goes, or the
-- file mask. It doesn't matter here whether the job allows it.
use Rattle.std.specs.Prelude.{◌≡◌, ◌≢◌, Option, None, Some, option_map, if◌then◌else◌}
use Rattle.ccw_core.specs.Ccw.{Fields}
use Rattle.ckd_core.specs.Track.{track_of}
use Rattle.ckd_core.specs.declared.track.Track.{Track}
use Rattle.chan_walk.specs.declared.argument.Operand.{Operand}
use Rattle.chan_walk.specs.declared.argument.Operand.TheVariants as operand
use Rattle.chan_walk.specs.declared.job.Job.{Job}
use Rattle.chan_walk.specs.declared.place.Place.{Place}
use Rattle.chan_walk.specs.declared.setting.Setting.{Setting}
use Rattle.chan_walk.specs.declared.setting.Setting.TheVariants.{Arm, Mask}
use Rattle.chan_walk.specs.ProgramCheck.{program_check}
use Rattle.chan_walk.specs.Fault.{begins_recalibrate}
use Rattle.chan_walk.specs.Job.{storage_of}
use Rattle.chan_walk.specs.Place.{ccw_of}
use Rattle.chan_walk.specs.Operand.{IsOperand}

-- the track to which Recalibrate moves the arm
abbrev pub home_track : Track
home_track = record { cylinder = 0; head = 0 }

-- what the operation that begins at p with the CCW c sets, where this was read of its argument: a
-- seek the track that its whole argument names, if it names no bin; Set File Mask its byte
abbrev pub setting_by : Place → Fields → Operand → Option Setting
setting_by p c (operand.Whole g) = option_map Arm (track_of g.bytes)
setting_by p c (operand.Short g) = None
setting_by p c (operand.Mask at b) = Some (Mask b)
setting_by p c operand.Nothing = if begins_recalibrate p c then Some (Arm home_track) else None

-- this is what is set at p: nothing where the channel meets a program check
pub record IsSetting (j : Job) (p : Place) (o : Option Setting) : Type 0 where
  pub unchecked : program_check (storage_of j) p ≡ None
      → (r : Operand) × IsOperand (storage_of j) p (ccw_of j p) r
      × (o ≡ setting_by p (ccw_of j p) r)
  pub checked : program_check (storage_of j) p ≢ None → o ≡ None
