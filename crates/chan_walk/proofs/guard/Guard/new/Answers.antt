use Rattle.chan_walk.proofs.Names.{[], ap, append-nil, append_assoc, AreLooks, AreReached, IfOk-weaker, List, Place, places_of_looks, subst, sym, ◌++◌, ◌∙◌, ◌∷◌, ◌≡◌}
use Rattle.chan_walk.proofs.Algorithms.Looking.{looks_push, places_push}
use Rattle.chan_walk.proofs.guard.Guard.new.Goals as goal

pub loop-place-preserved : goal.loop-place-preserved
loop-place-preserved c =
    let before : List Place = places_of_looks c.loop-place.looks.items in
    let p : Place = c.in-Some.place in
    record {
      looks = looks_push c.args.job.now c.look_by.result c.loop-place.looks.items c.push.new.self.items
          c.in_ok-push.ensures.items c.loop-place.invariant.looks c.look_by.ensures.look;
      places =
          ap (λ z. z ++ c.next.new.self)
          (places_push c.look_by.result p c.loop-place.looks.items c.push.new.self.items c.in_ok-push.ensures.items c.look_by.ensures.place)
          ∙ append_assoc before (p ∷ []) c.next.new.self ∙ ap (λ z. before ++ z) (sym c.in-Some.ensures.steps) ∙ c.loop-place.invariant.places;
    }

pub of-requires : goal.of-requires
of-requires c = (c.args.job.now, subst (AreLooks c.args.job.now) (sym c.as_slice.ensures.value) c.loop-place.invariant.looks)

pub returns : goal.returns
returns c =
    let j = c.args.job.now in
    let ps : List Place = places_of_looks c.loop-place.looks.items in
    let all : ps ≡ c.args.explored.now = sym (append-nil ps) ∙ ap (λ z. ps ++ z) (sym c.in-None.ensures.steps.0) ∙ c.loop-place.invariant.places in
    let are = subst (AreLooks j) (sym c.as_slice.ensures.value) c.loop-place.invariant.looks in
    let reached = subst (AreReached j) (sym (ap places_of_looks c.as_slice.ensures.value ∙ all)) (c.requires.each, c.requires.only) in
    IfOk-weaker c.of.result _ _ (λ g h. h j are reached) c.of.ensures
