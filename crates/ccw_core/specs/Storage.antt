-- Main storage as a list of bytes, and the channel command words in it.
use Rattle.std.specs.Prelude.{ℕ, ◌≡◌, Bool, true, ◌+◌, ◌%◌, ◌==◌, ◌&&◌, nat_le, List, length, take}
use Rattle.std.specs.Prelude.{drop, Option, Some, None, if◌then◌else◌}
use Rattle.ccw_core.specs.Ccw.{Fields, ccw}

-- on a doubleword boundary
unfoldable pub is_aligned : ℕ → Bool
is_aligned a = a % 8 == 0

-- the eight bytes from a on lie wholly in n bytes of storage; nothing wraps round
unfoldable pub is_inside : ℕ → ℕ → Bool
is_inside n a = nat_le (a + 8) n

-- a CCW stands at the address
abbrev pub Stands : List ℕ → ℕ → Type 0
Stands s a = (is_aligned a ≡ true) × (is_inside (length s) a ≡ true)

-- the CCW at an address, where one stands
abbrev pub ccw_at : List ℕ → ℕ → Option Fields
ccw_at s a = if is_aligned a && is_inside (length s) a then Some (ccw s a) else None

-- the bytes of a range, where it lies in storage
abbrev pub range_at : List ℕ → ℕ → ℕ → Option (List ℕ)
range_at s start len =
    if nat_le (start + len) (length s) then Some (take len (drop start s)) else None
