use Rattle.chan_walk.proofs.Names.{[], Area, data_of, IsSeenByte, subst, sym, ◌++◌, ◌∙◌, ◌∷◌}
use Rattle.chan_areas.specs.Merged.{HaveSameBytes}
use Rattle.chan_walk.proofs.Algorithms.Guarding.{adds_areas}
use Rattle.chan_walk.proofs.Algorithms.Moved.{seen_bytes}
use Rattle.chan_walk.proofs.moved.add_range.Goals as goal

pub returns-in_ok-add_area-in-Some-clause-bytes : goal.returns-in_ok-add_area-in-Some-clause-bytes
returns-in_ok-add_area-in-Some-clause-bytes c =
    let l = c.args.look.now in
    let ccw = c.in-Some.ccw in
    let old = c.args.ranges.now.items in
    let new = c.add_area.new.areas.items in
    adds_areas old (data_of ccw ∷ []) new (IsSeenByte l c.args.counts)
    (subst (λ (a : Area). HaveSameBytes new (old ++ a ∷ [])) c.data_of.ensures.range c.in_ok-add_area-in-Some.ensures.bytes)
    (seen_bytes l c.args.counts ccw (sym c.ccw.ensures ∙ c.in-Some.is) c.if-counts.true)
