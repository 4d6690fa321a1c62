use Rattle.chan_why.proofs.Names.{Evidence, IsSecondPathEnd, places_of_looks, subst, sym}
use Rattle.chan_why.proofs.Indexing.{taker_found}
use Rattle.chan_why.proofs.second_path.changed_place.Goals as goal

pub returns-in-ChangesArgument : goal.returns-in-ChangesArgument
returns-in-ChangesArgument c j are index =
    subst (λ (e : Evidence). IsSecondPathEnd j e (places_of_looks c.args.looks.now) c.taker.result) (sym c.in-ChangesArgument.is)
    (taker_found j c.args.looks.now c.in-ChangesArgument.byte c.args.finder.now.takers c.taker.result are index c.taker.ensures)
