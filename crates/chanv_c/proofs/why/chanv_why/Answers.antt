-- Too many places, by their number, and a yes by its verdict.
use Rattle.std.proofs.Common.{List, inl, inr, subst}
use Rattle.chan_walk.specs.declared.place.Place.{Place}
use Rattle.chanv_c.specs.Answers.{HasTooMany, IsJudged}
use Rattle.chanv_c.specs.Why.{HasLittleRoomFor, IsWrittenTo}
use Rattle.chanv_c.proofs.Refusals.{refusal_number}
use Rattle.chanv_c.proofs.why.chanv_why.Goals as goal
use Rattle.chanv_c.proofs.why.chanv_why.Goals.{then-has_little_room-via-then-has_little_room, then-has_little_room-via-else-has_little_room+then-has_little_room-2}

pub returns-in-Err-clause-number : goal.returns-in-Err-clause-number
returns-in-Err-clause-number c =
    rw (c.code.ensures, c.extent-out.ensures)
    (refusal_number (HasTooMany c.args.job.now) c.args.job.now c.in-Err.refusal c.in-Err.ensures.refusal)

pub returns-in-Yes-clause-yes : goal.returns-in-Yes-clause-yes
returns-in-Yes-clause-yes c =
    let a = c.in-Ok.ensures.answer in
    λ _. subst (IsJudged c.args.job.now) c.in-Yes.is (record { job = a.job; asked = a.asked; answer = a.answer })

pub returns-then-has_little_room-clause-room : goal.returns-then-has_little_room-clause-room
returns-then-has_little_room-clause-room c = λ _. (
  c.in-Ok.found,
  record { explanation = c.in-Ok.ensures.answer; offends = c.in_default.not-Yes; out_is = c.explanation_for_c.ensures },
  elim c.then-has_little_room.branch [
    | then-has_little_room-via-then-has_little_room w ↦ inl (
        subst (λ (l : List Place). HasLittleRoomFor l c.args.path.now) c.as_slice-first.ensures.value
        (c.has_little_room.ensures.0 w.if-has_little_room.true))
    | then-has_little_room-via-else-has_little_room+then-has_little_room-2 w ↦ inr (
        subst (λ (l : List Place). HasLittleRoomFor l c.args.second_path.now) c.as_slice-second.ensures.value
        (w.has_little_room-else-has_little_room.ensures.0 w.if-has_little_room-2.true))
  ],
)

pub returns-clause-no : goal.returns-clause-no
returns-clause-no c = λ _. (
  c.in-Ok.found,
  record { explanation = c.in-Ok.ensures.answer; offends = c.in_default.not-Yes; out_is = c.explanation_for_c.ensures },
  subst (λ (l : List Place). IsWrittenTo l c.args.path.now c.write_wanted.new.room) c.as_slice-first.ensures.value c.write_wanted.ensures,
  subst (λ (l : List Place). IsWrittenTo l c.args.second_path.now c.write_wanted-2.new.room) c.as_slice-second.ensures.value c.write_wanted-2.ensures,
)
