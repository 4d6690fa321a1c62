use Rattle.chan_why.proofs.Names.{get_or, Has, has_at, List, Offence, slice_get-get_or, subst}
use Rattle.chan_why.proofs.witness.offence_at.Goals as goal

pub returns-then-offence-address-clause-listed : goal.returns-then-offence-address-clause-listed
returns-then-offence-address-clause-listed c =
    let os = c.offences-offences.result.now in
    let i = c.loop-offence.offence-index in
    let o = get_or os i _ in
    subst (λ (os : List Offence). Has os o) c.offences-offences.ensures (has_at os i o (slice_get-get_or os i _ c.loop-offence-test.true))
