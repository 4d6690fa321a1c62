-- A place is written where those so far end.
use Rattle.std.proofs.Common.{◌≡◌, ◌<◌, ◌++◌, ◌+◌, suc, drop, length, map, take, set, ap, ◌∙◌, arith}
use Rattle.std.proofs.lemmas.Option.{slice_get-get_or}
use Rattle.chanv_c.specs.Answers.{place_for_c}
use Rattle.chanv_c.proofs.Written.{one_more}
use Rattle.chanv_c.proofs.c_place.write_path.Goals as goal

pub loop-index-preserved : goal.loop-index-preserved
loop-index-preserved c =
    let room : c.loop-index.index < length c.args.room.now = omega (arith, c.loop-index-test.true, c.requires) in
    let next : suc c.loop-index.index ≡ c.loop-index.index + 1 = omega arith in
    let there = slice_get-get_or c.args.path.now c.loop-index.index _ c.loop-index-test.true in
    ap (λ l. set l c.loop-index.index c.place_for_c.result) c.loop-index.invariant
    ∙ ap (set (map place_for_c (take c.loop-index.index c.args.path.now) ++ drop c.loop-index.index c.args.room.now) c.loop-index.index) c.place_for_c.ensures
    ∙ one_more place_for_c c.args.path.now c.args.room.now c.loop-index.index _ there room
    ∙ ap (λ n. map place_for_c (take n c.args.path.now) ++ drop n c.args.room.now) next
