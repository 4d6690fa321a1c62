-- The channel command ccw in two storages.
use Rattle.chan_walk.proofs.Names.{byte, ccw, List, rules, ℕ, ◌+◌, ◌<◌, ◌≡◌, ◌≤◌}

-- where the eight bytes are the same, so is the CCW
pub same_ccw : (s t : List ℕ) (a : ℕ) → ((b : ℕ) → a ≤ b → b < a + 8 → byte s b ≡ byte t b) → ccw s a ≡ ccw t a
unfolding ccw
same_ccw s t a h = search rules
