use Rattle.chan_walk.proofs.Names.{ap, arith, length, places_of_looks, subst, sym, ◌∙◌, ◌≡◌}
use Rattle.chan_walk.proofs.Algorithms.Looking.{number_of_places}
use Rattle.chan_walk.proofs.Algorithms.PlaceTable.{by_lists, IsLeftBelow, left_last, left_look, look_below, none_left}
use Rattle.chan_walk.specs.PlaceTable.{list_of}
use Rattle.chan_walk.specs.Places.{place_number}
use Rattle.chan_walk.proofs.place_table.PlaceTable.search.Goals as goal

pub loop-end-init : goal.loop-end-init
loop-end-init c =
    let ls = c.args.looks.now in
    let len : c.len.result ≡ length c.args.self.now.last.items = omega (arith, c.len.ensures, c.args.self.now.last.ok.0) in
    let lists = by_lists _ _ (λ e. absurd (omega (arith, e, c.args.self.now.last.ok.0))) c.requires in
    let left = left_last c.args.self.now (places_of_looks ls) c.args.place c.list_of.result c.index.result.now lists
    (c.list_of.ensures.list ∙ ap (λ n. list_of n c.args.place.address) len) c.index.ensures in
    (left, omega (arith, left.within, number_of_places ls))

pub loop-end-smaller : goal.loop-end-smaller
loop-end-smaller c =
    let l = c.index-looks-index.result in
    let there = look_below _ c.args.looks.now c.args.place c.loop-end.end l c.loop-end.invariant.0 c.loop-end-test.true c.index-looks-index.is in
    let lists = by_lists _ _ (λ e. absurd (omega (arith, e, c.args.self.now.last.ok.0))) c.requires in
    (left_look c.args.self.now c.args.looks.now c.args.place l.place c.loop-end.end c.index-in-loop-end.result.now lists c.loop-end.invariant.0
    c.loop-end-test.true there (λ e. c.if-number.false
    (c.number.ensures ∙ ap place_number c.place.ensures ∙ e ∙ sym c.number-in-loop-end.ensures)) c.index-in-loop-end.ensures).1

pub loop-end-preserved : goal.loop-end-preserved
loop-end-preserved c =
    let l = c.index-looks-index.result in
    let there = look_below _ c.args.looks.now c.args.place c.loop-end.end l c.loop-end.invariant.0 c.loop-end-test.true c.index-looks-index.is in
    let lists = by_lists _ _ (λ e. absurd (omega (arith, e, c.args.self.now.last.ok.0))) c.requires in
    let on = left_look c.args.self.now c.args.looks.now c.args.place l.place c.loop-end.end c.index-in-loop-end.result.now lists c.loop-end.invariant.0
    c.loop-end-test.true there (λ e. c.if-number.false
    (c.number.ensures ∙ ap place_number c.place.ensures ∙ e ∙ sym c.number-in-loop-end.ensures)) c.index-in-loop-end.ensures in
    (on.0, omega (arith, on.1, c.loop-end.invariant.1))

pub returns-clause-none : goal.returns-clause-none
returns-clause-none c =
    let done : c.loop-end.end ≡ 0 = omega (arith, c.loop-end-test.false) in
    let lists = length c.args.self.now.last.items in
    none_left lists _ c.args.place (subst (IsLeftBelow lists (places_of_looks c.args.looks.now) c.args.place) done c.loop-end.invariant.0)
