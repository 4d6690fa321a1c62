use Rattle.std.proofs.Common.{◌∙◌, ◌^◌, ap, arith, map}
use Rattle.std.proofs.lemmas.List.{take_all}
use Rattle.chan_areas.specs.Clip.{clip}
use Rattle.chan_areas.proofs.Clipping.{clipped_low, clipped_bytes}
use Rattle.chan_areas.proofs.merged.Merged.clipped.Goals as goal

pub new-requires : goal.new-requires
new-requires c = clipped_low c.args.length (2 ^ 32) _ c.loop-area.parts.items c.loop-area.invariant (omega arith)

pub returns : goal.returns
returns c =
    let all = c.loop-area.invariant ∙ ap (map (clip c.args.length)) (take_all c.loop-area.area-index c.args.areas.now (omega arith)) in
    clipped_bytes c.args.length c.args.areas.now c.loop-area.parts.items c.new.result all c.new.ensures
