use Rattle.chan_why.proofs.findings.shown_witness.Goals as goal

pub witness_by-requires-clause-listed : goal.witness_by-requires-clause-listed
witness_by-requires-clause-listed c =
    (c.requires.survey.0, c.requires.survey.1, rw c.in-Some.is at c.requires.requested)

pub returns-in-Some : goal.returns-in-Some
returns-in-Some c = rw c.in-Some.is c.witness_by.ensures
