use Rattle.chan_walk.proofs.Names.{arith, ChangesGuarded, HasOffences, IsArgumentByte, IsCcwByte, length, List, Place, places_of_looks, subst, sym, take, ◌<◌}
use Rattle.chan_walk.proofs.Theory.Lists.{has_at}
use Rattle.chan_walk.proofs.Algorithms.Listing.{adds_changes, new_place, offences_more, stores_both}
use Rattle.chan_walk.proofs.Algorithms.Looking.{look_of, place_at, places_next, places_taken}
use Rattle.chan_walk.proofs.offence.changes_of.Goals as goal

pub loop-look-preserved : goal.loop-look-preserved
loop-look-preserved c j are reached guards clear =
    let ls = c.args.looks.now in
    let i = c.loop-look.look-index in
    let l = c.look-item.result in
    let within : i < length ls = omega arith in
    let look = look_of j ls i l are within c.look-item.is in
    let there = place_at ls i l within c.look-item.is in
    let free = clear l.place (reached.1 l.place (has_at (places_of_looks ls) i l.place there)) in
    let ccws = stores_both j l c.stores_into-ccws.result c.ccws.result.now c.args.guard.now.ccws
    (IsCcwByte j) look free c.ccws.ensures guards.ccws c.stores_into-ccws.ensures in
    let arguments = stores_both j l c.stores_into-arguments.result c.arguments.result.now c.args.guard.now.arguments
    (IsArgumentByte j) look free c.arguments.ensures guards.arguments c.stores_into-arguments.ensures in
    subst (λ (ps : List Place). HasOffences (ChangesGuarded j) ps c.add_change-in-loop-look.new.changes.items) (sym (places_next ls i l within c.look-item.is))
    (offences_more (ChangesGuarded j) (places_of_looks (take i ls)) l.place c.loop-look.changes.items c.add_change-in-loop-look.new.changes.items
    (new_place ls i l c.requires within c.look-item.is) (c.loop-look.invariant j are reached guards clear)
    (adds_changes j l.place c.stores_into-ccws.result c.stores_into-arguments.result c.loop-look.changes.items c.add_change.new.changes.items
    c.add_change-in-loop-look.new.changes.items ccws arguments c.in_ok-add_change.ensures c.in_ok-add_change-2.ensures))

pub returns : goal.returns
returns c j are reached guards clear =
    subst (λ (ps : List Place). HasOffences (ChangesGuarded j) ps c.loop-look.changes.items)
    (places_taken c.args.looks.now c.loop-look.look-index (omega arith))
    (c.loop-look.invariant j are reached guards clear)
