use Rattle.chan_deck.proofs.Names.{arith, take_all}
use Rattle.ckd_core.proofs.CylinderLemmas.{extent_at}
use Rattle.std.proofs.lemmas.List.Folds.{flat_map-map}
use Rattle.chan_deck.proofs.writing.write_extents.Goals as goal

pub push-requires : goal.push-requires
push-requires c =
    let e = extent_at c.args.extents.now c.loop-pair.pair-index c.requires c.loop-pair-test.true in
    (omega (arith, e.0, e.1), omega (arith, e.1))

pub returns : goal.returns
returns c = simp flat_map-map (rw (take_all _ _ c.loop-pair-test.false) at c.loop-pair.invariant)
