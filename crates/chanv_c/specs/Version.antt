-- The version of the library.
use Rattle.std.specs.Prelude.{ℕ, ◌+◌, ◌*◌}

-- 1.0.0: its three numbers, 65,536 times the first, 256 times the second, and the third
abbrev pub version : ℕ
version = 65536 * 1 + 256 * 0 + 0
