use Rattle.chan_deck.proofs.Names.{Appends, false, storage_of, ◌++◌, ◌≡◌}
use Rattle.chan_deck.specs.Listing.{rows}
use Rattle.chan_deck.proofs.listing.write_rows.Given as goal

abbrev pub invariant-loop-place : goal.invariant-loop-place
invariant-loop-place g l = record {
  all : l.yielded ++ l.place-iterator ≡ l.explored;
  sound : l.to.failed ≡ false;
  rows : Appends (g.W.Write.contents l.fn.to.device) (g.W.Write.contents l.to.device) (rows (storage_of l.job) l.fn.verdict l.yielded);
}
