use Rattle.chan_walk.proofs.Names.{arith, IsArgumentByteOf, IsCcwByteOf, length, List, Place, places_of_looks, rules, subst, sym, take, ◌<◌, ◌≡◌}
use Rattle.chan_walk.proofs.Algorithms.Guarding.{HoldBytes, hold_none, low_none, hold_more, hold_same, ccw_bytes, argument_bytes}
use Rattle.chan_walk.proofs.Algorithms.Looking.{look_of, places_next, places_taken}
use Rattle.chan_walk.proofs.guard.Guard.of.Goals as goal

pub loop-look-init : goal.loop-look-init
loop-look-init c = search (rules, hold_none, low_none)

pub add_ccw-requires-clause-look : goal.add_ccw-requires-clause-look
add_ccw-requires-clause-look c = (
  c.requires.0,
  look_of c.requires.0 c.args.looks.now c.loop-look.look-index c.look-item.result c.requires.1 (omega arith) c.look-item.is,
)

pub add_argument-requires-clause-look : goal.add_argument-requires-clause-look
add_argument-requires-clause-look c = (
  c.requires.0,
  look_of c.requires.0 c.args.looks.now c.loop-look.look-index c.look-item.result c.requires.1 (omega arith) c.look-item.is,
)

pub loop-look-preserved : goal.loop-look-preserved
loop-look-preserved c =
    let ls = c.args.looks.now in
    let i = c.loop-look.look-index in
    let l = c.look-item.result in
    let within : i < length ls = omega arith in
    let more = sym (places_next ls i l within c.look-item.is) in
    record {
      ccws = λ j are.
          let h = look_of j ls i l are within c.look-item.is in
          subst (λ (ps : List Place). HoldBytes (IsCcwByteOf j) ps c.add_ccw.new.areas.items) more
          (hold_more (IsCcwByteOf j) (places_of_looks (take i ls)) l.place c.loop-look.ccws.items c.add_ccw.new.areas.items
          (c.loop-look.invariant.ccws j are) (c.in_ok-add_ccw.ensures.bytes j h));
      ccws_low = c.in_ok-add_ccw.ensures.low;
      arguments = λ j are.
          let h = look_of j ls i l are within c.look-item.is in
          subst (λ (ps : List Place). HoldBytes (IsArgumentByteOf j) ps c.add_argument.new.areas.items) more
          (hold_more (IsArgumentByteOf j) (places_of_looks (take i ls)) l.place c.loop-look.arguments.items c.add_argument.new.areas.items
          (c.loop-look.invariant.arguments j are) (c.in_ok-add_argument.ensures.bytes j h));
      arguments_low = c.in_ok-add_argument.ensures.low;
    }

pub returns : goal.returns
returns c j are reached =
    let ls = c.args.looks.now in
    let all : places_of_looks (take c.loop-look.look-index ls) ≡ places_of_looks ls = places_taken ls c.loop-look.look-index (omega arith) in
    record {
      ccws_merged = c.new-ccws-2.ensures.merged;
      ccws = ccw_bytes j (places_of_looks ls) c.new-ccws-2.result reached
          (hold_same (IsCcwByteOf j) _ _ c.loop-look.ccws.items c.new-ccws-2.result all (c.loop-look.invariant.ccws j are) c.new-ccws-2.ensures);
      arguments_merged = c.new-arguments-2.ensures.merged;
      arguments = argument_bytes j (places_of_looks ls) c.new-arguments-2.result reached (hold_same (IsArgumentByteOf j) _ _ c.loop-look.arguments.items
          c.new-arguments-2.result all (c.loop-look.invariant.arguments j are) c.new-arguments-2.ensures);
    }
