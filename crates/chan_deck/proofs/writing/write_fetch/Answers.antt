use Rattle.chan_deck.proofs.Names.{take_all}
use Rattle.std.proofs.lemmas.List.Folds.{flat_map-map}
use Rattle.chan_deck.proofs.writing.write_fetch.Goals as goal

pub returns : goal.returns
returns c = simp flat_map-map (rw (take_all _ _ c.loop-area-test.false) at c.loop-area.invariant)
