use Rattle.std.proofs.Common.{◌≡◌, map, take}
use Rattle.chan_areas.specs.Clip.{clip}
use Rattle.chan_areas.proofs.merged.Merged.clipped.Given as goal

abbrev pub invariant-loop-area : goal.invariant-loop-area
invariant-loop-area l = l.parts.items ≡ map (clip l.length) (take l.area-index l.areas)
