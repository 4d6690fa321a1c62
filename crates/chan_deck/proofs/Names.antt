-- The words that several of the proofs use, from one place.
pub use Rattle.ccw_core.proofs.Prefixes.{prefix_of_more}
pub use Rattle.ccw_core.specs.Written.{AppendsPrefix}
pub use Rattle.ccw_core.specs.declared.areas.Area.{Area}
pub use Rattle.ccw_core.specs.declared.ccw.TheConstants.{STORAGE_LIMIT}
pub use Rattle.chan_deck.specs.DeckValue.{extent_of, HasLimit, header_of, DeckValue, is_zero, IsDeck, items, limit_line, spelling, Spells}
pub use Rattle.chan_deck.specs.Item.{address_digits, area_digits, byte_digits, cylinder_digits, device, end, extent, fetch, HasForm, header, IsAddress, IsArea, IsByte, Item, limit, line, LineReads, LineSays, LineSaysIfAny, mask, put, said_by, size_digits, start, storage, store, text}
pub use Rattle.chan_deck.specs.Listing.{marked_row, seen_row}
pub use Rattle.chan_deck.specs.Needs.{in_six_digits, keep_line}
pub use Rattle.chan_deck.specs.PartsValue.{value_of_parts, storage_with, zeros}
pub use Rattle.chan_deck.specs.Reading.{after_item, after_line, and_then, begun_state, Filling, HasRead, value_of, is_empty, is_whole, IsDeckError, Listing, Masked, Named, on_extent, on_put, OnDevice, Opening, pad, ReadingGoesOn, run, stands, Started, State, step, Whole, with_lists}
pub use Rattle.chan_deck.specs.Refused.{FoundLine, is_limit, is_second, is_size, IsDeckCause, IsRefusedAt, last_of, lines, part, rank, whole_line}
pub use Rattle.chan_deck.specs.VerdictLine.{address_text, verdict_line}
pub use Rattle.chan_deck.specs.declared.cause.Cause.{Cause}
pub use Rattle.chan_deck.specs.declared.heading.Heading.{Heading}
pub use Rattle.chan_deck.specs.declared.version.Version.{Version}
pub use Rattle.chan_deck.specs.declared.version.Version.TheVariants.{One, Two}
pub use Rattle.chan_deck.specs.declared.version.VersionNumber.{VersionNumber}
pub use Rattle.chan_walk.proofs.Theory.Lists.{all_append}
pub use Rattle.chan_walk.specs.Job.{storage_of}
pub use Rattle.chan_walk.specs.declared.job.Job.{Job}
pub use Rattle.chan_walk.specs.declared.place.Place.{Place}
pub use Rattle.ckd_core.specs.Extents.{AreExtents, IsExtent}
pub use Rattle.ckd_core.specs.Mask.{is_mask}
pub use Rattle.ckd_core.specs.declared.device.Device.{Device}
pub use Rattle.ckd_core.specs.declared.device.Device.TheVariants.{D2311, D2314}
pub use Rattle.ckd_core.specs.declared.device.TheConstants.{LAST_CYLINDER}
pub use Rattle.hex.specs.Hex.{encode_upper, IsBytes, upper_digits}
pub use Rattle.std.proofs.Common.{[], ap, append_assoc, arith, Bool, codes, cond, drop, drop-cons, Err, false, get_or, if◌then◌else◌, inl, inr, length, length-append, length-drop, List, lit<, ltb, map, MatchBool, None, Ok, Option, refl, replicate, Result, rules, slice_index, Some, string_bytes, subst, suc, sym, take, true, zero, ℕ, ◌%◌, ◌&&◌, ◌*◌, ◌++◌, ◌+◌, ◌-◌, ◌/◌, ◌<◌, ◌^◌, ◌∙◌, ◌∷◌, ◌≡◌, ◌≤◌, ◌⊎◌}
pub use Rattle.std.proofs.Math.Seq.{take-append-add}
pub use Rattle.std.proofs.lemmas.Bool.{and_parts, cases_lt, cond_both, eqb-true, false_from_ne_true, le-leb, le-ltb, leb-true, lt-ltb, ltb-false, ltb-true, not-true}
pub use Rattle.std.proofs.lemmas.Bool.Decides.{Decides-eqb, nat_tests}
pub use Rattle.std.proofs.lemmas.Grind.{common_steps, flat_map-append}
pub use Rattle.std.proofs.lemmas.List.{append-nil, drop-drop, drop-replicate, drop_all, drop_at, length-map, length-replicate, length-take, map-append, replicate-append-replicate, take-append-drop, take-append-le, take-replicate, take_all, take_at}
pub use Rattle.std.proofs.lemmas.Result.{err_from_is_err_and, on_ok_weaker}
pub use Rattle.std.proofs.lemmas.Slice.Eq.{bytes_eq-Decides}
pub use Rattle.std.specs.Bool.{Decides}
pub use Rattle.std.specs.Fmt.{HasWritten}
pub use Rattle.std.specs.Int.{bytes_high_first, from_be_bytes, next_multiple_of, to_be_bytes, w32, w64}
pub use Rattle.std.specs.Io.KnownBytes.{Appends}
pub use Rattle.std.specs.List.{AllByRecursion, flat_map, list_any}
pub use Rattle.std.specs.Prelude.{nat_le, nat_lt, not, position, ◌==◌}
unfoldable pub use Rattle.chan_deck.specs.DeckValue.{puts}
unfoldable pub use Rattle.chan_deck.specs.Refused.{split}
unfoldable pub use Rattle.hex.specs.Hex.{encode_with}
