use Rattle.chan_walk.proofs.Names.{get_or, length, ℕ, ◌+◌, ◌<◌, ◌≡◌, ◌≤◌}
use Rattle.chan_walk.proofs.argument.note.Given as goal

abbrev pub invariant-loop-k : goal.invariant-loop-k
invariant-loop-k l = record {
  size : length l.addresses ≡ 6;
  before : (i : ℕ) → i < l.have → get_or l.addresses i 0 ≡ get_or l.fn.addresses i 0;
  added : (i : ℕ) → i < l.k → get_or l.addresses (l.have + i) 0 ≡ l.from + i;
  after : (i : ℕ) → l.have + l.k ≤ i → get_or l.addresses i 0 ≡ get_or l.fn.addresses i 0;
}
