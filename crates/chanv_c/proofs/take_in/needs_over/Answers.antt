-- What is told of needs, and that they are the needs wherever the kept bytes are held.
use Rattle.std.proofs.Common.{◌≤◌, ◌≡◌, ◌∙◌, ℕ, List, [], ◌∷◌, ap, inr, length, map, refl, subst, sym, true}
use Rattle.std.specs.List.{All}
use Rattle.std.proofs.lemmas.Bool.{both_ways, not-false}
use Rattle.chan_deck.proofs.SameLemmas.{same_areas_is}
use Rattle.chan_deck.specs.SameDecks.{same_areas, same_areas-IsEquivalence}
use Rattle.ccw_core.specs.declared.areas.Area.{Area}
use Rattle.chan_needs.specs.Remembered.{HoldsAreas, IsInside, bytes_in, total_len}
use Rattle.chan_needs.proofs.Inside.{kept_inside}
use Rattle.chan_needs.specs.Listed.{listed, pair}
use Rattle.chanv_c.specs.Needs.{IsFoundNeeds, StandFirst, extent_for_c}
use Rattle.chanv_c.proofs.Copies.{where_held}
use Rattle.chanv_c.proofs.take_in.needs_over.Goals as goal
use Rattle.chan_needs.specs.declared.layout.Extent.{Extent}

-- pairs that were extents of C are these for C
extents_of_pairs : (runs : List Extent) → map extent_for_c (map pair runs) ≡ runs
extents_of_pairs [] = refl
extents_of_pairs (r ∷ runs) = ap (λ rest. r ∷ rest) (extents_of_pairs runs)

pub returns-then-not-have_room-clause-room : goal.returns-then-not-have_room-clause-room
returns-then-not-have_room-clause-room c = λ _. record {
  needs = listed c.in-Ok-Needed.needs;
  remarks = c.in-Ok-Needed.remarks;
  found = record {
    needs = subst (IsFoundNeeds c.args.still.now) c.in-Ok-Needed.field-0-is c.in-Ok-Needed.ensures.answer;
    out_is = c.needs_for_c-found.ensures;
  };
  room = λ h. both_ways _ c.if-not-have_room.true (c.have_room.ensures.1 h);
}

pub returns-clause-yes : goal.returns-clause-yes
returns-clause-yes c = λ _.
    let needs = subst (IsFoundNeeds c.args.still.now) c.in-Ok-Needed.field-0-is c.in-Ok-Needed.ensures.answer in
    let held = subst (λ (l : List Area). HoldsAreas c.args.still.now.storage.now l c.copy_kept_bytes.new.kept)
    c.as_slice-6.ensures.value c.copy_kept_bytes.ensures.held in (
      record {
        needs = listed c.in-Ok-Needed.needs;
        remarks = c.in-Ok-Needed.remarks;
        found = record { needs = needs; out_is = c.needs_for_c-found.ensures };
        is_allowed = rw c.in_default-refusal.is at c.in-Ok.ensures;
        extents = subst (λ (l : List Extent). StandFirst l c.args.extents.now c.write_list.new.room)
            (c.as_slice-2.ensures.value ∙ sym (extents_of_pairs c.in-Ok-Needed.needs.extents.items)) c.write_list.ensures;
        fetch = subst (λ (l : List Area). StandFirst l c.args.fetch.now c.write_list-2.new.room) c.as_slice-3.ensures.value c.write_list-2.ensures;
        store = subst (λ (l : List Area). StandFirst l c.args.store.now c.write_list-3.new.room) c.as_slice-4.ensures.value c.write_list-3.ensures;
        keep = subst (λ (l : List Area). StandFirst l c.args.keep.now c.write_list-4.new.room) c.as_slice-5.ensures.value c.write_list-4.ensures;
        kept = subst (λ (l : List Area). StandFirst (bytes_in c.args.still.now.storage.now l) c.args.kept.now c.copy_kept_bytes.new.kept)
            c.as_slice-6.ensures.value c.copy_kept_bytes.ensures.copied;
        held = held;
        stays = where_held c.args.still.now (listed c.in-Ok-Needed.needs) c.in-Ok-Needed.remarks c.copy_kept_bytes.new.kept needs held;
      },
      sym c.as_slice.ensures.value ∙ same_areas_is c.as_slice.result.now c.args.copied.now (not-false _ (sym c.ne.ensures ∙ c.if-ne.false)),
    )

pub copy_kept_bytes-requires-clause-inside : goal.copy_kept_bytes-requires-clause-inside
copy_kept_bytes-requires-clause-inside c =
    let found = subst (IsFoundNeeds c.args.still.now) c.in-Ok-Needed.field-0-is c.in-Ok-Needed.ensures.answer in
    let opened = found.judged.is_open in
    let inside = kept_inside opened.job c.in-Ok-Needed.needs.keep.items found.needs.keep in
    let asked = subst (λ (s : List ℕ). All (IsInside s) c.in-Ok-Needed.needs.keep.items) opened.asked.storage inside in
    subst (λ (l : List Area). All (IsInside c.args.still.now.storage.now) l) (sym c.as_slice-6.ensures.value) asked

pub copy_kept_bytes-requires-clause-room : goal.copy_kept_bytes-requires-clause-room
copy_kept_bytes-requires-clause-room c =
    let room = c.have_room.ensures.0 c.if-not-have_room.false in
    subst (λ (l : List Area). total_len l ≤ length c.args.kept.now) (sym c.as_slice-6.ensures.value) room.kept

pub returns-then-ne-clause-changed : goal.returns-then-ne-clause-changed
returns-then-ne-clause-changed c = λ _.
    let found = subst (IsFoundNeeds c.args.still.now) c.in-Ok-Needed.field-0-is c.in-Ok-Needed.ensures.answer in
    let now = c.as_slice.result.now in
    let alike : same_areas now now ≡ true = same_areas-IsEquivalence.refl now in
    inr (inr (
      listed c.in-Ok-Needed.needs,
      c.in-Ok-Needed.remarks,
      found,
      λ same. both_ways _ (rw (subst (λ (l : List Area). same_areas now l ≡ true) (c.as_slice.ensures.value ∙ same) alike) at c.ne.ensures) c.if-ne.true,
    ))
