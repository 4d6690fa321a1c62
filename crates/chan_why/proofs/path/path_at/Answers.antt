use Rattle.chan_why.proofs.Names.{[], ap, arith, HasFound, IsLastStore, IsPathAt, IsSurvey, Job, List, look_of, Place, place_at, places_of_looks, Seen, slice_get, slice_index, Some, subst, sym, ◌++◌, ◌∙◌, ◌∷◌, ◌≡◌}
use Rattle.chan_why.proofs.Backward.{IsWayBack, as_read, back_end, back_next, from_earlier}
use Rattle.chan_why.proofs.path.path_at.Goals as goal

pub bounds-looks-from : goal.bounds-looks-from
bounds-looks-from c =
    let i = c.loop-from.invariant in
    let read = as_read i.found.0 c.args.survey.now _ _ c.looks-looks.ensures c.found_from-found_from.ensures i.found.1 in
    (from_earlier i.found.0 _ _ read c.loop-from.from c.loop-from-test.true i.within).1

pub loop-from-smaller : goal.loop-from-smaller
loop-from-smaller c =
    let i = c.loop-from.invariant in
    let read = as_read i.found.0 c.args.survey.now _ _ c.looks-looks.ensures c.found_from-found_from.ensures i.found.1 in
    (from_earlier i.found.0 _ _ read c.loop-from.from c.loop-from-test.true i.within).0

pub loop-from-preserved : goal.loop-from-preserved
loop-from-preserved c =
    let ls = c.looks-looks.result.now in
    let fs = c.found_from-found_from.result.now in
    let s = c.args.survey.now in
    let read : (j : Job) → IsSurvey j s → HasFound j ls fs = λ j h. as_read j s ls fs c.looks-looks.ensures c.found_from-found_from.ensures h in
    let i = c.loop-from.invariant in
    let e = from_earlier i.found.0 ls fs (read i.found.0 i.found.1) c.loop-from.from c.loop-from-test.true i.within in
    let from = slice_index fs c.loop-from.from in
    let l = c.index-looks-from.result in
    let place = c.place.result in
    let there : slice_get (places_of_looks ls) from ≡ Some place = place_at ls from l e.1 c.index-looks-from.is ∙ ap Some (sym c.place.ensures) in
    let more = c.in_ok-push-2.ensures.items in
    let t = i.stored in
    record {
      found = i.found;
      within = e.1;
      back = λ j h. back_next j ls fs (read j h) c.args.at c.loop-from.from place c.loop-from.places.items
          c.push-in-loop-from.new.self.items c.loop-from-test.true there more (i.back j h);
      stored = (
        t.0 ++ place ∷ [],
        more ∙ ap (λ z. z ++ place ∷ []) t.1,
        λ j h.
            let look = look_of j ls from l (read j h).looks e.1 c.index-looks-from.is in
            subst (λ (z : Place). IsLastStore j c.place-end.result.address (t.0 ++ z ∷ []) c.first_store-stored_by.result)
            (sym c.place.ensures) (c.first_store-stored_by.ensures j look t.0 (t.2 j h)),
      );
    }

pub returns-clause-path : goal.returns-clause-path
returns-clause-path c j h =
    let ls = c.looks-looks.result.now in
    let fs = c.found_from-found_from.result.now in
    let s = c.args.survey.now in
    let read : (j : Job) → IsSurvey j s → HasFound j ls fs = λ j h. as_read j s ls fs c.looks-looks.ensures c.found_from-found_from.ensures h in
    let zero : c.loop-from.from ≡ 0 = let t = c.loop-from-test.false in omega arith in
    let path =
    back_end j ls fs (read j h) c.args.at c.loop-from.places.items c.reverse.new.self.items c.reverse.ensures.items
    (subst (λ z. IsWayBack j (places_of_looks ls) c.args.at z c.loop-from.places.items) zero (c.loop-from.invariant.back j h))
    in
    subst (λ (xs : List Seen). IsPathAt j (places_of_looks xs) c.args.at c.reverse.new.self.items) c.looks-looks.ensures path
