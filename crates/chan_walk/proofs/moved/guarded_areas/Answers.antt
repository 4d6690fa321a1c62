use Rattle.chan_walk.proofs.Names.{rules}
use Rattle.chan_areas.proofs.Merging.{merged_both}
use Rattle.chan_walk.proofs.moved.guarded_areas.Goals as goal

pub returns : goal.returns
returns c =
    let g = c.args.guard.now in
    λ j guards. merged_both g.ccws g.arguments _ c.new.result (search rules) c.new.ensures guards.ccws guards.arguments
