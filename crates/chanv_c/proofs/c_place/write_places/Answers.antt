-- A place is written where those so far end.
use Rattle.std.proofs.Common.{◌≡◌, ◌<◌, ◌++◌, ℕ, zero, suc, ◌+◌, None, List, [], ◌∷◌, drop, length, map, take, set, slice_get, ap, sym, ◌∙◌, arith}
use Rattle.chanv_c.specs.Answers.{place_for_c}
use Rattle.chanv_c.proofs.Written.{one_more}
use Rattle.chanv_c.proofs.c_place.write_places.Goals as goal
use Rattle.chanv_c.proofs.c_place.write_places.Goals.{in-Some, in_default}

-- an index below the length has an element
present : {X : Type 0} (xs : List X) (i : ℕ) → i < length xs → slice_get xs i ≡ None → ⊥
present [] i within none = omega (arith, within)
present (x ∷ xs) zero within none = absurd cc
present (x ∷ xs) (suc i) within none = present xs i (omega (arith, within)) none

pub loop-index-preserved : goal.loop-index-preserved
loop-index-preserved c =
    let within : c.loop-index.index < length c.args.found.now = omega (arith, c.loop-index-test.true, c.len-index-end.ensures) in
    let room : c.loop-index.index < length c.args.room.now = omega (arith, within, c.requires) in
    let next : suc c.loop-index.index ≡ c.loop-index.index + 1 = omega arith in
    elim c.match-place.branch [
      | in-Some w ↦
          let there = sym c.place.ensures ∙ w.in-Some.is in
          w.room-is ∙ ap (λ l. set l c.loop-index.index w.place_for_c.result) c.loop-index.invariant
          ∙ ap (set (map place_for_c (take c.loop-index.index c.args.found.now)
          ++ drop c.loop-index.index c.args.room.now) c.loop-index.index) w.place_for_c.ensures
          ∙ one_more place_for_c c.args.found.now c.args.room.now c.loop-index.index w.in-Some.place there room
          ∙ ap (λ n. map place_for_c (take n c.args.found.now) ++ drop n c.args.room.now) next
      | in_default w ↦ absurd (present c.args.found.now c.loop-index.index within (sym c.place.ensures ∙ w.in_default.is))
    ]
