use Rattle.chan_walk.proofs.Names.{rules, Seen, ◌≡◌}
use Rattle.std.proofs.lemmas.Iterator.{IsFirst-from_position, YieldsList-from_slice}
use Rattle.chan_walk.proofs.Algorithms.Marks.{same_number}
use Rattle.chan_walk.proofs.Algorithms.PlaceTable.{index_of_first}
use Rattle.chan_walk.proofs.place_table.index_among.Goals as goal

pub returns : goal.returns
returns c =
    let p = c.args.place in
    index_of_first c.args.looks.now p c.position.result
    (IsFirst-from_position _ _ c.position.result (λ (l : Seen). l.place ≡ p) (λ (l : Seen). l.place ≡ p → ⊥)
    c.position.ensures.ran (YieldsList-from_slice c.args.looks.now cc)
    (λ x q k. let is = k.met in search (rules, same_number))
    (λ x q k. let is = k.met in search (rules, same_number)))
