use Rattle.chan_needs.proofs.Names.{arith, HoldBytes, List, look_of, Place, places_next, places_of_looks, places_taken, rules, SeeksCylinder, subst, sym, take, ◌+◌, ◌^◌}
use Rattle.chan_needs.proofs.Demanding.{clear_at}
use Rattle.chan_walk.proofs.Algorithms.Guarding.{hold_more, hold_none, hold_same, low_none}
use Rattle.chan_areas.proofs.Merging.{exactly_low}
use Rattle.chan_needs.proofs.Seeking.{sought_all}
use Rattle.chan_needs.proofs.needs.sought.Goals as goal

pub loop-look-init : goal.loop-look-init
loop-look-init c = search (rules, low_none, hold_none)

pub loop-look-preserved : goal.loop-look-preserved
loop-look-preserved c =
    let ls = c.args.looks.now in
    let i = c.loop-look.look-index in
    let l = c.look-item.result in
    record {
      low = c.in_ok-add_cylinder.ensures.low;
      bytes = λ j are.
          let h = look_of j ls i l are.looks c.loop-look-test.true c.look-item.is in
          let f = clear_at j ls i l are c.loop-look-test.true c.look-item.is in
          subst (λ (ps : List Place). HoldBytes (SeeksCylinder j) ps c.add_cylinder.new.cylinders.items)
          (sym (places_next ls i l c.loop-look-test.true c.look-item.is))
          (hold_more (SeeksCylinder j) (places_of_looks (take i ls)) l.place c.loop-look.cylinders.items c.add_cylinder.new.cylinders.items
          (c.loop-look.invariant.bytes j are) (c.in_ok-add_cylinder.ensures.cylinder j h f));
    }

pub new-requires : goal.new-requires
new-requires c k d l = let e = c.loop-look.invariant.low k d l in omega arith

pub returns-clause-low : goal.returns-clause-low
returns-clause-low c = exactly_low (2 ^ 16 + 1) c.loop-look.cylinders.items c.new.result c.new.ensures c.loop-look.invariant.low

pub returns-clause-cylinders : goal.returns-clause-cylinders
returns-clause-cylinders c j are =
    let ls = c.args.looks.now in
    record {
      merged = c.new.ensures.merged;
      bytes = sought_all j (places_of_looks ls) c.new.result are.reached
          (hold_same (SeeksCylinder j) _ (places_of_looks ls) c.loop-look.cylinders.items c.new.result
          (places_taken ls c.loop-look.look-index (omega arith)) (c.loop-look.invariant.bytes j are) c.new.ensures);
    }
