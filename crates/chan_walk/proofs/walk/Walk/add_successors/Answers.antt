use Rattle.chan_walk.proofs.Names.{places_of_looks, refl, slice_get_read, ◌≡◌}
use Rattle.std.proofs.Common.{Err, Result}
use Rattle.std.proofs.lemmas.Result.{err_from_is_err_and}
use Rattle.chan_walk.specs.declared.walk_error.WalkError.{WalkError}
use Rattle.chan_walk.specs.declared.walk_error.WalkError.TheVariants.{TooManyPlaces}
use Rattle.chan_walk.proofs.Algorithms.Looking.{within_places}
use Rattle.chan_walk.proofs.Algorithms.Walking.{are_next, leads_from_look, next_overflows, place_there, skip_overflows, walked_on}
use Rattle.chan_walk.proofs.Algorithms.Tracing.{traced_on}
use Rattle.chan_walk.proofs.walk.Walk.add_successors.Goals as goal

pub returns-in_err-add_if_any-clause-many : goal.returns-in_err-add_if_any-clause-many
returns-in_err-add_if_any-clause-many c e =
    let was : ◌≡◌ {A = Result (Unit {0}) WalkError} (Err c.in_err-add_if_any.field-0.0) (Err TooManyPlaces) =
    let p = err_from_is_err_and c.from_residual.result c.from_residual.ensures.1 in cc in
    let ls = c.args.self.now.looks.items in
    let there = slice_get_read ls _ c.args.at c.index.result.now refl c.requires.within c.index.ensures in
    let here = leads_from_look c.args.job.now ls c.args.at c.index.result.now c.next-next.result c.requires.looks there c.next-next.ensures in
    next_overflows c.args.job.now c.args.job.now.limit c.next-next.result (places_of_looks ls) c.args.at c.requires.walked here
    (c.in_err-add_if_any.ensures.many was)

pub returns-in_err-add_if_any-2-clause-many : goal.returns-in_err-add_if_any-2-clause-many
returns-in_err-add_if_any-2-clause-many c e =
    let was : ◌≡◌ {A = Result (Unit {0}) WalkError} (Err c.in_err-add_if_any-2.field-0.0) (Err TooManyPlaces) =
    let p = err_from_is_err_and c.from_residual-in_err-add_if_any-2.result c.from_residual-in_err-add_if_any-2.ensures.1 in cc in
    let ls = c.args.self.now.looks.items in
    let there = slice_get_read ls _ c.args.at c.index.result.now refl c.requires.within c.index.ensures in
    let here = leads_from_look c.args.job.now ls c.args.at c.index.result.now c.next-next.result c.requires.looks there c.next-next.ensures in
    skip_overflows c.args.job.now c.args.job.now.limit c.next-next.result _ (places_of_looks ls)
    (places_of_looks c.add_if_any.new.self.looks.items) _ _ c.args.at c.requires.walked here c.in_ok-add_if_any.ensures.ok
    (c.in_err-add_if_any-2.ensures.many was)

pub returns-clause-ok : goal.returns-clause-ok
returns-clause-ok c =
    let ls = c.args.self.now.looks.items in
    let there = slice_get_read ls _ c.args.at c.index.result.now refl c.requires.within c.index.ensures in
    let here = leads_from_look c.args.job.now ls c.args.at c.index.result.now c.next-next.result c.requires.looks there c.next-next.ensures in
    walked_on c.args.job.now c.args.job.now.limit c.next-next.result _ (places_of_looks ls)
    (places_of_looks c.add_if_any.new.self.looks.items) (places_of_looks c.add_if_any-2.new.self.looks.items) _ _ _ c.args.at c.requires.walked
    (within_places ls c.args.at c.requires.within) here c.in_ok-add_if_any.ensures.ok c.in_ok-add_if_any-2.ensures.ok

pub returns-clause-traced : goal.returns-clause-traced
returns-clause-traced c =
    let ls = c.args.self.now.looks.items in
    let there = slice_get_read ls _ c.args.at c.index.result.now refl c.requires.within c.index.ensures in
    let next = are_next c.args.job.now ls c.args.at c.index.result.now c.next-next.result c.requires.looks there c.next-next.ensures in
    traced_on c.args.job.now c.index.result.now.place c.next-next.result c.args.at next c.args.job.now.limit
    (places_of_looks ls) (places_of_looks c.add_if_any.new.self.looks.items) (places_of_looks c.add_if_any-2.new.self.looks.items)
    c.args.self.now.found_from.items c.add_if_any.new.self.found_from.items c.add_if_any-2.new.self.found_from.items
    c.requires.traced (place_there ls c.args.at c.index.result.now there) c.in_ok-add_if_any.ensures.ok c.in_ok-add_if_any-2.ensures.ok
