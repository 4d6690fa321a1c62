use Rattle.chan_walk.proofs.Names.{[], ap, places_of_looks, sym, take, ◌++◌, ◌+◌, ◌∙◌, ◌∷◌, ◌≡◌}
use Rattle.std.proofs.lemmas.List.{take_more}
use Rattle.chan_walk.proofs.Algorithms.Looking.{places_push}
use Rattle.chan_walk.proofs.Algorithms.Marks.{agrees_push}
use Rattle.chan_walk.proofs.marks.marks_of_looks.Goals as goal

pub loop-look-preserved : goal.loop-look-preserved
loop-look-preserved c =
    let i = c.loop-look.look-index in
    let ls = c.args.looks.now in
    let l = c.look-item.result in
    let more : take (i + 1) ls ≡ take i ls ++ l ∷ []
    = take_more ls i l c.loop-look-test.true ∙ ap (λ z. take i ls ++ z ∷ []) (sym c.look-item.is) in
    agrees_push c.loop-look.marks c.mark.new.marks c.place-place.result (places_of_looks (take i ls)) (places_of_looks (take (i + 1) ls))
    (places_push l c.place-place.result (take i ls) (take (i + 1) ls) more (sym c.place-place.ensures)) c.loop-look.invariant c.in_ok-mark.ensures.ok
