use Rattle.chan_find.specs.Trails.{work_left}
use Rattle.chan_find.proofs.trails.Covered.cover.Given as goal

abbrev pub decreases-loop-place : goal.decreases-loop-place
decreases-loop-place l = work_left l.self
