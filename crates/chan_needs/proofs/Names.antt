-- The words that several of the proofs use, from one place.
pub use Rattle.ccw_core.proofs.Covering.{lies_in-nil}
pub use Rattle.ccw_core.specs.Areas.{end_of}
pub use Rattle.ccw_core.specs.Ccw.{byte, Fields}
pub use Rattle.ccw_core.specs.Held.{bytes_held}
pub use Rattle.ccw_core.specs.Storage.{Stands}
pub use Rattle.ccw_core.specs.declared.areas.Area.{Area}
pub use Rattle.chan_areas.proofs.Gaps.{least_same}
pub use Rattle.chan_areas.proofs.Merging.{lies_in-cases, lies_in-first, lies_in-rest}
pub use Rattle.chan_areas.proofs.Searching.{merged_len}
pub use Rattle.chan_areas.specs.Merged.{AreExactly, BeginAbove, EndsBelow, IsByteOf, IsLeastOf, IsLeastOrNone, IsMerged}
pub use Rattle.chan_needs.specs.History.{AreFlightsWell, BeginsSinceAsked, Flight, IsHistory, IsNextSituation, MayStart, ProgramActs, ProgramWaits, Situation, Spares}
pub use Rattle.chan_needs.specs.LeastBytes.{lesser_of}
pub use Rattle.chan_needs.specs.Listed.{AreBounds, AreLooksOfYes, AreNeeds, AreProgramsCompatible, IsShared, IsSought, Listed, listed_in, pair, run_of, SeeksCylinder}
pub use Rattle.chan_needs.specs.Needs.{begins, Grants, IsKept, IsNeededCylinder, IsNeededForStoring, IsStrictest, KeepsProgram, MaskServes, MaskServesAt}
pub use Rattle.chan_needs.specs.Remembered.{AreInFlight, bytes_in, HoldsArea, HoldsAreas, HoldsByte, IsFirstChanged, IsFirstChangedIn, IsInFlight, IsInFlightAt, IsInside, KeepsNone, total_len}
pub use Rattle.chan_needs.specs.SideBySide.{AreJobsCompatible}
pub use Rattle.chan_needs.specs.Start.{GrantsListed, IsCompatibleWith, IsFit}
pub use Rattle.chan_needs.specs.Supervised.{IsAllowed, IsSupervised, ProgramGoesOnAt, ProgramStartsAt, ProgramWaitsAt, Supervision, SupervisionGoesOn}
pub use Rattle.chan_needs.specs.declared.layout.Extent.{Extent}
pub use Rattle.chan_needs.specs.declared.layout.Remembered.{Remembered}
pub use Rattle.chan_walk.proofs.Algorithms.Guarding.{HoldBytes}
pub use Rattle.chan_walk.proofs.Algorithms.Looking.{ccw_seen, look_of, places_next, places_taken}
pub use Rattle.chan_walk.proofs.Algorithms.Opened.{from_open, to_open}
pub use Rattle.chan_walk.proofs.Machine.Again.{yes_by_guarded}
pub use Rattle.chan_walk.proofs.Theory.Chains.{argument_unique}
pub use Rattle.chan_walk.proofs.Theory.Checks.{check_stands}
pub use Rattle.chan_walk.proofs.Theory.Commands.{mask_is_no_transfer}
pub use Rattle.chan_walk.proofs.Theory.Faults.{clear_check, clear_good, clear_stands, yes_clear}
pub use Rattle.chan_walk.proofs.Theory.Granting.{ccw_over, data_under_yes, fetches_parts, same_under_yes, stores_parts}
pub use Rattle.chan_walk.proofs.Theory.Lists.{has_at}
pub use Rattle.chan_walk.proofs.Theory.OwnFaults.{data_in_storage}
pub use Rattle.chan_walk.proofs.Theory.Transport.{same_data}
pub use Rattle.chan_walk.specs.Alarm.{IsProper}
pub use Rattle.chan_walk.specs.Argument.{Has, HasArgument}
pub use Rattle.chan_walk.specs.Fault.{begins_recalibrate, begins_seek, begins_set_mask, fetches, IsClear, stores}
pub use Rattle.chan_walk.specs.Guard.{byte_area}
pub use Rattle.chan_walk.specs.Guarded.{IsGuarded}
pub use Rattle.chan_walk.specs.Job.{extents_of, fetch_of, HasMask, storage_of, store_of}
pub use Rattle.chan_walk.specs.Look.{IsLook, places_of_looks, Seen}
pub use Rattle.chan_walk.specs.Machine.{home}
pub use Rattle.chan_walk.specs.Moved.{IsFetchedFrom, IsStoredInto}
pub use Rattle.chan_walk.specs.OpenJob.{AreOfOneProgram, open_job}
pub use Rattle.chan_walk.specs.Place.{ccw_of, is_fresh}
pub use Rattle.chan_walk.specs.Places.{AreReached}
pub use Rattle.chan_walk.specs.Reachable.{IsReachable}
pub use Rattle.chan_walk.specs.Runs.{IsSameIn, IsStart, Moment, Steps, Waits}
pub use Rattle.chan_walk.specs.Seeks.{SeeksTo}
pub use Rattle.chan_walk.specs.Verdict.{AreClear, IsVerdict, MayStoreOver}
pub use Rattle.chan_walk.specs.VerdictBytes.{with_storage}
pub use Rattle.chan_walk.specs.Visit.{begun}
pub use Rattle.chan_walk.specs.declared.job.Job.{Job}
pub use Rattle.chan_walk.specs.declared.place.Place.{Place}
pub use Rattle.chan_walk.specs.declared.verdict.Verdict.TheVariants.{Yes}
pub use Rattle.ckd_core.proofs.LevelLemmas.{seek_level-le, strict-levels, write_level-le}
pub use Rattle.ckd_core.specs.Command.{class_passes}
pub use Rattle.ckd_core.specs.Entries.{entry_of}
pub use Rattle.ckd_core.specs.Levels.{mask_of, seek_level, write_level}
pub use Rattle.ckd_core.specs.Track.{cylinder_of}
pub use Rattle.ckd_core.specs.declared.command.MaskClass.{MaskClass}
pub use Rattle.ckd_core.specs.declared.command.MaskClass.TheVariants.{Recalibrate, Seek, SeekCylinder, SeekHead}
pub use Rattle.std.proofs.Common.{[], ap, arith, Bool, drop, false, get_or, inl, inr, IsSome, length, List, map, min, nat_le, None, Option, option_map, refl, rules, Some, subst, suc, sym, take, true, zero, ℕ, ◌&&◌, ◌++◌, ◌+◌, ◌-◌, ◌<◌, ◌==◌, ◌^◌, ◌↔◌, ◌∙◌, ◌∷◌, ◌≡◌, ◌≢◌, ◌≤◌, ◌⊎◌}
pub use Rattle.std.proofs.Math.Seq.{drop-cons}
pub use Rattle.std.proofs.lemmas.Bool.{and_from, and_parts, both_ways, cases_lt, eq-eqb, le-leb, leb-true, not_from_false, or_cases, or_left, or_right}
pub use Rattle.std.proofs.lemmas.Bool.Decides.{eqb_tells}
pub use Rattle.std.proofs.lemmas.List.{drop_all, length-append, map-append, take_all, take_more}
pub use Rattle.std.proofs.lemmas.List.Elements.{All-cons, All-head, All-nil, All-tail}
pub use Rattle.std.specs.List.{All, AllByRecursion, AllWithin}
unfoldable pub use Rattle.ccw_core.specs.Areas.{lies_in}
unfoldable pub use Rattle.ccw_core.specs.Ccw.{is_transfer}
unfoldable pub use Rattle.ccw_core.specs.Storage.{is_inside}
unfoldable pub use Rattle.ckd_core.specs.Command.{lookup}
unfoldable pub use Rattle.ckd_core.specs.Extents.{has_cylinder}
unfoldable pub use Rattle.ckd_core.specs.Mask.{inhibits, is_at_least}
