use Rattle.chan_walk.proofs.Names.{length, storage_of, subst}
use Rattle.chan_walk.specs.Direction.{lent_for}
use Rattle.chan_walk.specs.Lending.{Lends}
use Rattle.chan_walk.specs.Lent.{areas_for}
use Rattle.chan_walk.proofs.Theory.Found.{lent_gap}
use Rattle.chan_walk.proofs.lent.Lending.gap.Goals as goal

pub returns-in-Merged : goal.returns-in-Merged
returns-in-Merged c =
    let lent = subst (Lends c.args.job.now) c.in-Merged.is c.requires.lends in
    lent_gap (length (storage_of c.args.job.now)) (areas_for c.args.direction c.in-Merged.lent.now)
    (lent_for c.args.direction c.args.job.now) c.args.range c.gap.result (lent c.args.direction) c.requires.inside c.gap.ensures
