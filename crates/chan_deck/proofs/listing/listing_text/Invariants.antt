use Rattle.chan_deck.proofs.Names.{flat_map, seen_row, take, ◌≡◌}
use Rattle.chan_deck.proofs.listing.listing_text.Given as goal

abbrev pub invariant-loop-look : goal.invariant-loop-look
invariant-loop-look l = l.text.items ≡ flat_map (seen_row l.verdict) (take l.look-index l.looks)
