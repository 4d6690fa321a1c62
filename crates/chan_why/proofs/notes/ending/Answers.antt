use Rattle.chan_why.proofs.Names.{arith, ends_there, Has, length, List, look_of, Place, places_next, places_of_looks, places_taken, subst, sym, take, ◌<◌}
use Rattle.chan_why.proofs.Noted.{HasAddress, HoldAddresses, addresses_more, adds_address, all_addresses}
use Rattle.chan_why.proofs.notes.ending.Goals as goal

pub loop-look-preserved : goal.loop-look-preserved
loop-look-preserved c j are =
    let ls = c.args.looks.now in
    let i = c.loop-look.look-index in
    let l = c.look-item.result in
    let within : i < length ls = omega arith in
    let look = look_of j ls i l are within c.look-item.is in
    subst (λ (ps : List Place). HoldAddresses (Has c.add_address.new.addresses.items) (HasAddress ends_there j) ps)
    (sym (places_next ls i l within c.look-item.is))
    (addresses_more (HasAddress ends_there j) (places_of_looks (take i ls)) l.place
    c.loop-look.addresses.items c.add_address.new.addresses.items (c.loop-look.invariant j are)
    (adds_address ends_there j l c.ends_there.result c.loop-look.addresses.items c.add_address.new.addresses.items look
    (c.ends_there.ensures j look) c.in_ok-add_address.ensures))

pub returns : goal.returns
returns c j are reached =
    let ls = c.args.looks.now in
    all_addresses ends_there j _ (places_of_looks ls) c.loop-look.addresses.items c.each_once.result.items
    (places_taken ls c.loop-look.look-index (omega arith)) reached
    (c.loop-look.invariant j are) c.each_once.ensures.rising c.each_once.ensures.same
