use Rattle.chan_walk.proofs.Names.{byte, bytes_held, get_or, length, ℕ, ◌<◌, ◌≡◌, ◌≤◌}
use Rattle.chan_walk.proofs.argument.bytes_of.Given as goal

abbrev pub invariant-loop-k : goal.invariant-loop-k
invariant-loop-k l = record {
  size : length l.bytes ≡ 6;
  zeros : (i : ℕ) → l.k ≤ i → i < 6 → get_or l.bytes i 0 ≡ 0;
  read : (i : ℕ) → i < l.k → get_or l.bytes i 0 ≡ byte (bytes_held l.storage) (get_or l.addresses i 0);
}
