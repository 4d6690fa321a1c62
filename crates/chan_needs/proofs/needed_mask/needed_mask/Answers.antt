use Rattle.chan_needs.proofs.Names.{AreBounds, arith, List, look_of, Place, places_next, places_of_looks, places_taken, rules, subst, take}
use Rattle.chan_needs.proofs.Demanding.{ServesEach, clear_at, bounds_first, bounds_next}
use Rattle.chan_needs.proofs.Masking.{strictest}
use Rattle.chan_needs.proofs.needed_mask.needed_mask.Goals as goal

pub loop-look-init : goal.loop-look-init
loop-look-init c j are = search (rules, bounds_first)

pub loop-look-preserved : goal.loop-look-preserved
loop-look-preserved c j are =
    let ls = c.args.looks.now in
    let i = c.loop-look.look-index in
    let l = c.look-item.result in
    let here = c.demanded.ensures j (look_of j ls i l are.looks c.loop-look-test.true c.look-item.is)
    (clear_at j ls i l are c.loop-look-test.true c.look-item.is) in
    let next = bounds_next j (places_of_looks (take i ls)) l.place _ _ _ _ (c.loop-look.invariant j are) here in
    rw (c.laxer-levels.ensures.writes, c.laxer-levels.ensures.seeks, places_next ls i l c.loop-look-test.true c.look-item.is) next

pub returns : goal.returns
returns c j are =
    let ls = c.args.looks.now in
    let e = c.loop-look.levels in
    let all = places_taken ls c.loop-look.look-index (omega arith) in
    rw c.of_levels.ensures (strictest _ e.writes e.seeks e.few_writes e.few_seeks
    (subst (λ (qs : List Place). AreBounds (ServesEach j qs) e.writes e.seeks) all (c.loop-look.invariant j are)))
