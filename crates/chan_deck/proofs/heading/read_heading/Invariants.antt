use Rattle.chan_deck.proofs.Names.{begun_state, length, Opening, ReadingGoesOn}
use Rattle.chan_deck.proofs.heading.read_heading.Given as goal

-- the cursor stands after what was said
abbrev pub invariant-loop-more : goal.invariant-loop-more
invariant-loop-more l = ReadingGoesOn Opening l.fn.cursor (begun_state l.begun) l.cursor

abbrev pub decreases-loop-more : goal.decreases-loop-more
decreases-loop-more l = length l.cursor.rest.now
