use Rattle.chan_why.proofs.Names.{Has, List, Offence, subst}
use Rattle.chan_why.proofs.Explaining.{first_listed}
use Rattle.chan_why.proofs.witness.witness_from.Goals as goal

pub witness_of-requires : goal.witness_of-requires
witness_of-requires c =
    let o = c.in-Some.first.now in
    (c.requires.0, c.requires.1, subst (λ (os : List Offence). Has os o) c.offences.ensures (first_listed c.offences.result.now o c.in-Some.ensures.value))
