use Rattle.chan_walk.proofs.Names.{arith, HasOffences, HasOwnFault, length, List, Place, places_of_looks, subst, sym, take, ◌<◌}
use Rattle.chan_walk.proofs.Algorithms.Listing.{new_place, offences_more}
use Rattle.chan_walk.proofs.Algorithms.Looking.{look_of, places_next, places_taken}
use Rattle.chan_walk.proofs.offence.faults_of.Goals as goal

pub loop-look-preserved : goal.loop-look-preserved
loop-look-preserved c j are =
    let ls = c.args.looks.now in
    let i = c.loop-look.look-index in
    let l = c.look-item.result in
    let within : i < length ls = omega arith in
    subst (λ (ps : List Place). HasOffences (HasOwnFault j) ps c.add_fault.new.faults.items) (sym (places_next ls i l within c.look-item.is))
    (offences_more (HasOwnFault j) (places_of_looks (take i ls)) l.place c.loop-look.faults.items c.add_fault.new.faults.items
    (new_place ls i l c.requires within c.look-item.is) (c.loop-look.invariant j are)
    (c.in_ok-add_fault.ensures j (look_of j ls i l are within c.look-item.is)))

pub returns : goal.returns
returns c j are =
    subst (λ (ps : List Place). HasOffences (HasOwnFault j) ps c.loop-look.faults.items) (places_taken c.args.looks.now c.loop-look.look-index (omega arith))
    (c.loop-look.invariant j are)
