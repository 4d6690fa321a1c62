use Rattle.chanv_c.proofs.checks.chanv_check_write.Goals as goal

pub returns-in-None-clause-well : goal.returns-in-None-clause-well
returns-in-None-clause-well c = λ _. c.check_write.ensures.well c.in-None.is
