use Rattle.std.proofs.Common.{◌<◌}
use Rattle.std.specs.List.{All}
use Rattle.ccw_core.specs.declared.ccw.TheConstants.{STORAGE_LIMIT}
use Rattle.chan_args.proofs.image_request.areas_met.Given as goal

abbrev pub invariant-loop-text : goal.invariant-loop-text
invariant-loop-text l =
    All (λ a. (a.start < STORAGE_LIMIT) × (a.len < STORAGE_LIMIT)) l.areas.items
