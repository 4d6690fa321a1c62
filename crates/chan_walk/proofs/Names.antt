-- The words that many of the proofs use, from one place.
pub use Rattle.ccw_core.proofs.Covering.{lies_in-nil}
pub use Rattle.ccw_core.proofs.StorageLemmas.{ccw_at-some, ccw_at-where}
pub use Rattle.ccw_core.specs.Areas.{covered, end_of}
pub use Rattle.ccw_core.specs.Ccw.{byte, Fields}
pub use Rattle.ccw_core.specs.Held.{bytes_held}
pub use Rattle.ccw_core.specs.Storage.{ccw_at, Stands}
pub use Rattle.ccw_core.specs.declared.areas.Area.{Area}
pub use Rattle.ccw_core.specs.declared.ccw.TheConstants.{STORAGE_LIMIT}
pub use Rattle.chan_areas.proofs.Merging.{lies_in-cases, lies_in-first}
pub use Rattle.chan_areas.specs.Merged.{AreExactly, EndsBelow}
pub use Rattle.chan_walk.specs.Alarm.{AreBytes, ArePlaces, ChangesUsed, first_cylinder, HasNoWholeArgument, IsProper, IsQuietEvent, IsQuietMoment, NoFalseAlarm, ShowsInOperation, ShowsInStep, ShowsReason}
pub use Rattle.chan_walk.specs.Argument.{AreLinked, argument, argument_addresses, BeginsAt, ChainLeads, data_addresses, Has, HasArgument, IsChain, joined, total}
pub use Rattle.chan_walk.specs.Direction.{direction_of, is_direction, moves_by}
pub use Rattle.chan_walk.specs.Evidence.{IsOwnFault, reason_of}
pub use Rattle.chan_walk.specs.Fault.{allows, begins_recalibrate, begins_seek, begins_set_mask, command_faults, fault_with, fetches, goes_in, goes_out, HasFault, is_known, is_refused, IsClear, kind_of, lent_faults, stores, table_of_own}
pub use Rattle.chan_walk.specs.Guard.{AddsBytes, byte_area, IsArgumentByteOf, IsCcwByteOf, IsSeekByteOf}
pub use Rattle.chan_walk.specs.Guarded.{IsArgumentByte, IsCcwByte, IsGuarded, TakesArgumentByte}
pub use Rattle.chan_walk.specs.Harm.{NoIsHarm}
pub use Rattle.chan_walk.specs.Headline.{ChainComesTo, HoldsInitialByte, IsGathered, IsSafeEvent, IsSafeMoment, IsSpared, MeetsNoProgramCheck, YesIsSafe, YesIsSafeAmong}
pub use Rattle.chan_walk.specs.Job.{extents_of, fetch_of, HasMask, heads, storage_of, store_of}
pub use Rattle.chan_walk.specs.Look.{AreLooks, IsLook, place_of, places_of_looks, Seen}
pub use Rattle.chan_walk.specs.Machine.{At, carried, Checked, checked, Command, command_event, Continues, Ended, ends, Event, Fetch, Gather, Gathered, home, home_stays, idle, mask_stays, MovesData, no_byte, no_home, no_mask, none, on_command, on_data, on_short, on_skip, part, Recalibration, searched, Seek, Seeks, SetMask, SetsMask, skipped, Stage, stays, Step, Store, stored, taken, transferred, under_way, unknown, with_taken, written}
pub use Rattle.chan_walk.specs.Marks.{HasWay, ListsMarks, marks_of, marks_or_none, place_at, places_of}
pub use Rattle.chan_walk.specs.Moved.{IsDataOf, IsSeenByte}
pub use Rattle.chan_walk.specs.Offence.{HasOffences, HasOwnFault, offence_number}
pub use Rattle.chan_walk.specs.OpenJob.{AreOfOneProgram, GrantsMore}
pub use Rattle.chan_walk.specs.Operand.{AreZeroFrom, IsOperand, onward, operand_addresses}
pub use Rattle.chan_walk.specs.Place.{ccw_of, data_of, first_place, is_fresh, straight_to, transferred_to}
pub use Rattle.chan_walk.specs.Places.{AreDistinct, AreReached, place_number, way_of}
pub use Rattle.chan_walk.specs.ProgramCheck.{first_reason, program_check, table_of_every_ccw, table_of_non_transfer}
pub use Rattle.chan_walk.specs.Reachable.{IsPath, IsReachable}
pub use Rattle.chan_walk.specs.Runs.{IsRun, IsRunAmong, IsSameIn, Moment, Uses, UsesIn, UsesInArgument, UsesInCcw}
pub use Rattle.chan_walk.specs.Successor.{AreSuccessors, chained, next_of, skip_of}
pub use Rattle.chan_walk.specs.Verdict.{AreClear, ChangesGuarded, IsVerdict, Offends, StoresOver}
pub use Rattle.chan_walk.specs.VerdictBytes.{at_once, further, IsChained, IsVerdictByte, with_storage}
pub use Rattle.chan_walk.specs.Visit.{begun}
pub use Rattle.chan_walk.specs.Walk.{AddsPlace, Follows, HasFound, HasNoRoomFor, IsAmong, IsTraced, IsWalked, MarksAgree}
pub use Rattle.chan_walk.specs.declared.argument.Operand.{Operand}
pub use Rattle.chan_walk.specs.declared.evidence.Evidence.{Evidence}
pub use Rattle.chan_walk.specs.declared.job.Job.{Job}
pub use Rattle.chan_walk.specs.declared.place.Entry.{Entry}
pub use Rattle.chan_walk.specs.declared.place.Entry.TheVariants.{ChainOut, Fresh}
pub use Rattle.chan_walk.specs.declared.place.Place.{Place}
pub use Rattle.chan_walk.specs.declared.reason.Reason.{Reason}
pub use Rattle.chan_walk.specs.declared.reason.Reason.TheVariants.{BadFormat, ChangesArgument, ChangesCcw, DataOutside, FetchNotLent, Inhibited, InvalidCode, Misaligned, NotInTable, OutsideStorage, SeekOutside, ShortSeek, StoreNotLent, TransferNotAllowed, WeakensMask, ZeroCount}
pub use Rattle.chan_walk.specs.declared.successor.Next.{Next}
pub use Rattle.chan_walk.specs.declared.verdict.Verdict.{Verdict}
pub use Rattle.chan_walk.specs.declared.verdict.Verdict.TheVariants.{No, Yes}
pub use Rattle.ckd_core.specs.Command.{class_is_seek, class_passes, class_recalibrates, class_sets_mask}
pub use Rattle.ckd_core.specs.Device.{heads_of}
pub use Rattle.ckd_core.specs.Extents.{AreExtents}
pub use Rattle.ckd_core.specs.Mask.{is_mask}
pub use Rattle.ckd_core.specs.Track.{cylinder_of, head_of, track_of}
pub use Rattle.ckd_core.specs.declared.command.Kind.{Kind}
pub use Rattle.ckd_core.specs.declared.command.Kind.TheVariants.{Idle, Inward, Outward, Search}
pub use Rattle.ckd_core.specs.declared.command.MaskClass.{MaskClass}
pub use Rattle.ckd_core.specs.declared.track.Track.{Track}
pub use Rattle.std.proofs.Common.{[], ap, append-nil, append_assoc, arith, Bool, cond, eqb, false, get_or, if◌then◌else◌, inl, inr, is_none, is_some, IsTrue, length, length-append, Less, List, map, min, None, not, Option, option_map, refl, rules, slice_get, slice_index, Some, subst, suc, sym, take, true, zero, ℕ, ◌%◌, ◌&&◌, ◌*◌, ◌++◌, ◌+◌, ◌-◌, ◌<◌, ◌==◌, ◌^◌, ◌||◌, ◌↔◌, ◌∙◌, ◌∷◌, ◌≡◌, ◌≤◌, ◌⊎◌}
pub use Rattle.std.proofs.Math.ListN.{get_or-append}
pub use Rattle.std.proofs.lemmas.Bool.{and_from, and_parts, both_ways, cases_Bool, cases_lt, cond-false, eq-eqb, eqb-true, leb-true, not-false, not-true, or_cases, or_left, or_right}
pub use Rattle.std.proofs.lemmas.Bool.Decides.{nat_tests}
pub use Rattle.std.proofs.lemmas.Grind.{common_steps}
pub use Rattle.std.proofs.lemmas.List.{get_or-map, length-map, map-append, take_all}
pub use Rattle.std.proofs.lemmas.List.Elements.{All-append}
pub use Rattle.std.proofs.lemmas.List.FromFn.{length-map-range_with_len, length-range_with_len}
pub use Rattle.std.proofs.lemmas.List.Sorted.{Contains-permutation, IsPermutation-map, IsPermutation-sym}
pub use Rattle.std.proofs.lemmas.Map.Keys.{IsDistinct-IsPermutation, IsStrictlyIncreasing-from_distinct}
pub use Rattle.std.proofs.lemmas.Option.{same_Some, slice_get-map, slice_get_read}
pub use Rattle.std.proofs.lemmas.Result.{IfOk-weaker}
pub use Rattle.std.specs.BTreeMap.{BTreeMap}
pub use Rattle.std.specs.Int.{bit_at}
pub use Rattle.std.specs.List.{All, AllByRecursion, range_with_len}
pub use Rattle.std.specs.List.Sorted.{IsNonDecreasingBy, IsPermutation, IsStrictlyIncreasing}
pub use Rattle.std.specs.Option.{option_or}
pub use Rattle.std.specs.Ordering.{nat_cmp}
unfoldable pub use Rattle.ccw_core.specs.Areas.{lies_in}
unfoldable pub use Rattle.ccw_core.specs.Ccw.{ccw, chains_data, has_count, has_data_in, is_formed, is_transfer, skips}
unfoldable pub use Rattle.ccw_core.specs.Storage.{is_aligned, is_inside}
unfoldable pub use Rattle.chan_walk.specs.Argument.{is_part}
unfoldable pub use Rattle.chan_walk.specs.Marks.{ways}
unfoldable pub use Rattle.chan_walk.specs.ProgramCheck.{program_check_of}
unfoldable pub use Rattle.ckd_core.specs.Command.{is_seek, lookup, recalibrates, sets_mask}
unfoldable pub use Rattle.ckd_core.specs.Extents.{has_cylinder}
unfoldable pub use Rattle.ckd_core.specs.Mask.{inhibits, is_at_least}
unfoldable pub use Rattle.ckd_core.specs.Track.{is_allowed}
unfoldable pub use Rattle.std.specs.List.Sorted.{IsStrictlySortedBy}
