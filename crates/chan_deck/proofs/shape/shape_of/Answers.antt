use Rattle.chan_deck.proofs.Names.{length-map, rules}
use Rattle.chan_walk.specs.Look.{places_of_looks}
use Rattle.chan_deck.proofs.shape.shape_of.Goals as goal

pub returns : goal.returns
returns c = λ j is.
    let looks = c.in_ok-looks.looks.items in
    (places_of_looks looks, c.in_ok-looks.ensures.places j is, rw length-map (search rules))
