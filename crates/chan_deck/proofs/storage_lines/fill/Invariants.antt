use Rattle.chan_deck.proofs.Names.{[], Area, drop, Filling, Heading, length, List, ReadingGoesOn, replicate, take, ℕ, ◌-◌, ◌≡◌, ◌≤◌}
use Rattle.chan_deck.proofs.storage_lines.fill.Given as goal

-- the cursor stands behind what storage has so far
abbrev pub invariant-loop-address : goal.invariant-loop-address
invariant-loop-address l = record {
  told : (h : Heading) (es : List (ℕ × ℕ)) (fs ss : List Area)
      → ReadingGoesOn (Filling h es fs ss (length l.fn.storage) []) l.fn.cursor
      (Filling h es fs ss (length l.storage) (take l.next l.storage)) l.cursor;
  behind : drop l.next l.storage ≡ replicate (length l.storage - l.next) 0;
  within : l.next ≤ length l.storage;
  same : length l.storage ≡ length l.fn.storage;
}

abbrev pub decreases-loop-address : goal.decreases-loop-address
decreases-loop-address l = length l.cursor.rest.now
