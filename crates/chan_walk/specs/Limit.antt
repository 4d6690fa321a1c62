-- How many places of a program may be reachable.
use Rattle.std.specs.Prelude.{ℕ, ◌≤◌}

-- a job's limit: one place or more, and no more than 65,536
abbrev pub IsLimit : ℕ → Type 0
IsLimit n = (1 ≤ n) × (n ≤ 65536)

-- the limit where nothing else is asked for
abbrev pub usual_limit : ℕ
usual_limit = 4096
