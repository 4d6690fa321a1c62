use Rattle.chan_walk.proofs.Names.{rules}
use Rattle.chan_walk.proofs.judgement.verify.Goals as goal

pub returns-clause-answer : goal.returns-clause-answer
returns-clause-answer c = search rules
