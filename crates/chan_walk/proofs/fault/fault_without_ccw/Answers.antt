use Rattle.chan_walk.proofs.Names.{arith, refl, storage_of}
use Rattle.chan_walk.proofs.Theory.CheckCases.{check-misaligned, check-outside}
use Rattle.chan_walk.proofs.fault.fault_without_ccw.Goals as goal

pub returns-then-address-ne0 : goal.returns-then-address-ne0
returns-then-address-ne0 c = (check-misaligned (storage_of c.args.job.now) c.args.place c.if-address-ne0.true, refl)

pub returns : goal.returns
returns c = (check-outside (storage_of c.args.job.now) c.args.place (omega (arith, c.if-address-ne0.false)) c.requires, (refl, c.len.ensures.value))
