use Rattle.chan_walk.proofs.Names.{[], Area, EndsBelow, IsCcwByteOf, Place, storage_of, subst, sym, ◌++◌, ◌^◌, ◌∙◌, ◌∷◌}
use Rattle.chan_areas.specs.Merged.{HaveSameBytes}
use Rattle.chan_walk.proofs.Algorithms.Guarding.{adds_areas, bytes_of_ccw, stands_low}
use Rattle.chan_walk.proofs.Algorithms.Looking.{seen_stands}
use Rattle.chan_walk.proofs.guard.add_ccw.Goals as goal

-- the area of the CCW at a place
abbrev area_at : Place → Area
area_at p = record { start = p.address; len = 8 }

pub add_area-requires-clause-fits : goal.add_area-requires-clause-fits
add_area-requires-clause-fits c =
    let p = c.args.look.now.place in
    let j = c.requires.look.0 in
    let stands = seen_stands j c.args.look.now c.ccw.result c.requires.look.1 c.ccw.ensures (sym c.is_some.ensures ∙ c.if-is_some.true) in
    subst (λ (q : Place). EndsBelow (2 ^ 32) (area_at q)) (sym c.place-start.ensures) (stands_low (storage_of j) p.address j.storage.small stands)

pub returns-in_ok-add_area-clause-bytes : goal.returns-in_ok-add_area-clause-bytes
returns-in_ok-add_area-clause-bytes c j h =
    let p = c.args.look.now.place in
    let old = c.args.areas.now.items in
    let stands = seen_stands j c.args.look.now c.ccw.result h c.ccw.ensures (sym c.is_some.ensures ∙ c.if-is_some.true) in
    adds_areas old (area_at p ∷ []) c.add_area.new.areas.items (IsCcwByteOf j p)
    (subst (λ (q : Place). HaveSameBytes c.add_area.new.areas.items (old ++ area_at q ∷ [])) c.place-start.ensures c.in_ok-add_area.ensures.bytes)
    (bytes_of_ccw j p stands)
