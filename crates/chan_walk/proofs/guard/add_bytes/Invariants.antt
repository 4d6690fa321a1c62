use Rattle.chan_walk.proofs.Names.{[], All, byte_area, end_of, EndsBelow, map, take, ◌++◌, ◌<◌, ◌^◌, ◌∷◌}
use Rattle.chan_areas.specs.Merged.{HaveSameBytes}
use Rattle.chan_walk.proofs.guard.add_bytes.Given as goal

abbrev pub invariant-loop-address : goal.invariant-loop-address
invariant-loop-address l = record {
  low : All (EndsBelow (2 ^ 32)) l.areas.items;
  fits : end_of l.run < 2 ^ 32;
  bytes : HaveSameBytes (l.areas.items ++ l.run ∷ []) (l.initial.areas.items ++ map byte_area (take l.address-index l.addresses));
}
