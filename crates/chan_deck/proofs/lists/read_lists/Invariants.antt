use Rattle.chan_deck.proofs.Names.{[], Heading, length, Listing, ReadingGoesOn, with_lists}
use Rattle.chan_deck.proofs.lists.read_lists.Given as goal

-- the cursor stands behind the lists so far
abbrev pub invariant-loop-lists : goal.invariant-loop-lists
invariant-loop-lists l = (h : Heading) → ReadingGoesOn (Listing h [] [] []) l.fn.cursor (with_lists h l.lists) l.cursor

abbrev pub decreases-loop-lists : goal.decreases-loop-lists
decreases-loop-lists l = length l.cursor.rest.now
