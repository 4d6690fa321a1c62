use Rattle.chan_walk.proofs.Names.{Has, inl, places_of_looks, refl, subst}
use Rattle.chan_walk.proofs.Algorithms.Looking.{looks_push}
use Rattle.chan_walk.proofs.Theory.Lists.{has_at}
use Rattle.chan_walk.proofs.walk.Walk.add.Goals as goal

pub returns-in_ok-push-3-clause-looks : goal.returns-in_ok-push-3-clause-looks
returns-in_ok-push-3-clause-looks c =
    looks_push c.args.job.now c.look_by.result c.args.self.now.looks.items
    c.push-in-Err.new.self.items c.in_ok-push-2.ensures.items c.requires.looks c.look_by.ensures.look

pub returns-in_default-clause-ok : goal.returns-in_default-clause-ok
returns-in_default-clause-ok c =
    let s = c.args.self.now in
    let has : Has (places_of_looks s.looks.items) c.args.place =
    subst (λ ls. Has (places_of_looks ls) c.args.place) c.as_slice.ensures.value (has_at _ _ c.args.place c.in_default.ensures.found) in
    inl (has, refl, refl)
