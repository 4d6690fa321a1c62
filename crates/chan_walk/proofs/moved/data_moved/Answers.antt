use Rattle.chan_walk.proofs.Names.{ap, arith, is_direction, length, List, moves_by, Place, places_of_looks, rules, subst, sym, take, ◌<◌, ◌∙◌}
use Rattle.chan_walk.proofs.Theory.Found.{moves_so}
use Rattle.chan_walk.proofs.Algorithms.Guarding.{HoldBytes, hold_more, hold_none, hold_same, low_none}
use Rattle.chan_walk.proofs.Algorithms.Looking.{look_of, places_next, places_taken}
use Rattle.chan_walk.proofs.Algorithms.Moved.{HasData, adds_data, all_data}
use Rattle.chan_walk.proofs.moved.data_moved.Goals as goal

pub loop-look-init : goal.loop-look-init
loop-look-init c = search (rules, low_none, hold_none)

pub loop-look-preserved : goal.loop-look-preserved
loop-look-preserved c =
    let d = c.args.direction in
    let ls = c.args.looks.now in
    let i = c.loop-look.look-index in
    let l = c.look-item.result in
    let within : i < length ls = omega arith in
    record {
      low = c.in_ok-add_range.ensures.low;
      bytes = λ j are.
          let look = look_of j ls i l are within c.look-item.is in
          subst (λ (ps : List Place). HoldBytes (HasData (moves_by d) j) ps c.add_range.new.ranges.items) (sym (places_next ls i l within c.look-item.is))
          (hold_more (HasData (moves_by d) j) (places_of_looks (take i ls)) l.place
          c.loop-look.ranges.items c.add_range.new.ranges.items (c.loop-look.invariant.bytes j are)
          (adds_data (moves_by d) j l c.moves.result c.loop-look.ranges.items c.add_range.new.ranges.items look
          (λ f e. c.moves.ensures ∙ ap (is_direction d) (look.direction f e) ∙ moves_so d l.place f) c.in_ok-add_range.ensures.bytes));
    }

pub returns : goal.returns
returns c =
    let test = moves_by c.args.direction in
    let ls = c.args.looks.now in
    let is = c.new.ensures in
    λ j are reached. record {
      merged = is.merged;
      bytes = all_data test j (places_of_looks ls) c.new.result reached
          (hold_same (HasData test j) _ (places_of_looks ls) c.loop-look.ranges.items c.new.result
          (places_taken ls c.loop-look.look-index (omega arith)) (c.loop-look.invariant.bytes j are) is);
    }
