-- The words that several of the proofs use, from one place.
pub use Rattle.ccw_core.specs.Areas.{end_of}
pub use Rattle.ccw_core.specs.Ccw.{Fields}
pub use Rattle.ccw_core.specs.declared.areas.Area.{Area}
pub use Rattle.chan_areas.specs.Merged.{IsByteIn, IsLeastOf, IsLeastOrNone}
pub use Rattle.chan_walk.proofs.Algorithms.Listing.{offence}
pub use Rattle.chan_walk.proofs.Algorithms.Looking.{ccw_seen, look_of, number_of_places, own_clear, place_at, places_next, places_taken}
pub use Rattle.chan_walk.proofs.Algorithms.Marks.{same_number}
pub use Rattle.chan_walk.proofs.Algorithms.Tracing.{best_first, best_next}
pub use Rattle.chan_walk.proofs.Algorithms.Walking.{all_found, reached_looks}
pub use Rattle.chan_walk.proofs.Theory.Faults.{clear_stands}
pub use Rattle.chan_walk.proofs.Theory.Lists.{at_has, has_at, has_push}
pub use Rattle.chan_walk.specs.Argument.{Has}
pub use Rattle.chan_walk.specs.Evidence.{IsOwnFault}
pub use Rattle.chan_walk.specs.Fault.{begins_seek, is_known, IsClear, kind_of, kind_of_command}
pub use Rattle.chan_walk.specs.Guard.{GuardAreas, Guards, IsArgumentByteOf}
pub use Rattle.chan_walk.specs.Guarded.{IsArgumentByte, IsCcwByte}
pub use Rattle.chan_walk.specs.Job.{storage_of}
pub use Rattle.chan_walk.specs.JobSurvey.{IsSurvey, Surveyed}
pub use Rattle.chan_walk.specs.Look.{AreLooks, argument_seen, IsLook, places_of_looks, Seen}
pub use Rattle.chan_walk.specs.Operand.{whole_of}
pub use Rattle.chan_walk.specs.Place.{ccw_of, data_at, data_of, is_fresh}
pub use Rattle.chan_walk.specs.Places.{AreDistinct, AreReached, place_number}
pub use Rattle.chan_walk.specs.Reachable.{IsReachable}
pub use Rattle.chan_walk.specs.Successor.{next_of}
pub use Rattle.chan_walk.specs.Verdict.{AreClear, ChangesGuarded, Offends}
pub use Rattle.chan_walk.specs.Walk.{HasFound, IsBestPath}
pub use Rattle.chan_walk.specs.declared.evidence.Evidence.{Evidence}
pub use Rattle.chan_walk.specs.declared.job.Job.{Job}
pub use Rattle.chan_walk.specs.declared.offence.Offence.{Offence}
pub use Rattle.chan_walk.specs.declared.place.Entry.{Entry}
pub use Rattle.chan_walk.specs.declared.place.Place.{Place}
pub use Rattle.chan_walk.specs.declared.reason.Reason.{Reason}
pub use Rattle.chan_why.specs.Evidence.{IsArgumentIn, IsEvidenceAt, IsCcwIn}
pub use Rattle.chan_why.specs.Finder.{IsIndex, IsOfKind, TakesByte, TakesSoFar}
pub use Rattle.chan_why.specs.Hang.{AddsPredecessor, AreBuckets, ArePredecessors, bucket_of, BucketEndsAt, EndsAfter, EndsTheProgram, FindsMore, HasBefore, IsFirstPlace, IsLeftUnmarked, MarksFound, one_after}
pub use Rattle.chan_why.specs.Notes.{ends_there, interrupts, is_idle, moves_nothing}
pub use Rattle.chan_why.specs.Path.{IsFirstWhere, IsPathAt}
pub use Rattle.chan_why.specs.SecondPath.{IsSecondPathEnd}
pub use Rattle.chan_why.specs.Witness.{HasLikeOffence, IsOffenceEvidence, IsLastStore, IsStoredBefore, StoresAt}
pub use Rattle.chan_why.specs.declared.hang.Predecessor.{Predecessor}
pub use Rattle.chan_why.specs.declared.hang.Predecessors.{Predecessors}
pub use Rattle.ckd_core.specs.declared.command.Kind.{Kind}
pub use Rattle.ckd_core.specs.declared.command.Kind.TheVariants.{Idle, Outward}
pub use Rattle.std.proofs.Common.{[], ap, arith, Bool, eqb, false, get_or, inl, inr, IsSome, length, List, None, not, Option, refl, reverse, rules, set, slice_get, slice_index, Some, subst, suc, sym, take, true, zero, ℕ, ◌%◌, ◌&&◌, ◌++◌, ◌+◌, ◌-◌, ◌<◌, ◌↔◌, ◌∙◌, ◌∷◌, ◌≡◌, ◌≤◌, ◌⊎◌}
pub use Rattle.std.proofs.lemmas.Bool.{both_ways, cases_eq, cases_lt}
pub use Rattle.std.proofs.lemmas.List.{append_assoc, get_or_read}
pub use Rattle.std.proofs.lemmas.Option.{slice_get-get_or, slice_get_read, slice_get_within}
pub use Rattle.std.specs.Ordering.{nat_cmp}
unfoldable pub use Rattle.ccw_core.specs.Areas.{lies_in}
unfoldable pub use Rattle.ccw_core.specs.Ccw.{chains_data, is_transfer}
unfoldable pub use Rattle.ckd_core.specs.Command.{lookup}
