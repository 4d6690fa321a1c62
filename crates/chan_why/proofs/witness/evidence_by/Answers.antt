use Rattle.chan_why.proofs.Names.{get_or, Has, has_at, List, Offence, slice_get-get_or, subst}
use Rattle.chan_why.proofs.witness.evidence_by.Goals as goal

pub case_of-requires-clause-listed : goal.case_of-requires-clause-listed
case_of-requires-clause-listed c =
    let os = c.offences-offences.result.now in
    let i = c.loop-offence.offence-index in
    let o = get_or os i _ in (
      c.requires.survey.0,
      c.requires.survey.1,
      subst (λ (os : List Offence). Has os o) c.offences-offences.ensures (has_at os i o (slice_get-get_or os i _ c.loop-offence-test.true)),
    )
