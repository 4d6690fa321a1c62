use Rattle.std.proofs.Common.{◌-◌, ◌+◌, ◌<◌, ◌≤◌}
use Rattle.std.specs.List.{All}
use Rattle.ccw_core.specs.declared.ccw.TheConstants.{STORAGE_LIMIT}
use Rattle.chan_walk.specs.Job.{storage_of}
use Rattle.chan_find.specs.Programs.{AreStarts}
use Rattle.chan_find.proofs.programs.roots.Given as goal

abbrev pub invariant-loop-address : goal.invariant-loop-address
invariant-loop-address l = record {
  low : l.address ≤ STORAGE_LIMIT + 8;
  are : AreStarts (storage_of l.job) l.roots.items;
  below : All (λ start. start < l.address) l.roots.items;
}

abbrev pub decreases-loop-address : goal.decreases-loop-address
decreases-loop-address l = (STORAGE_LIMIT + 16) - l.address
