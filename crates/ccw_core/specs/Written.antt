-- What a writer got of some bytes, where it tells what it holds.
use Rattle.std.specs.Prelude.{ℕ, ◌≤◌, List, Option, length, take}
use Rattle.std.specs.Io.KnownBytes.{Appends}

-- the writer's bytes grew by the first of bs, some number of them
pub record AppendsPrefix (old new : Option (List ℕ)) (bs : List ℕ) : Type 0 where
  pub count : ℕ
  pub within : count ≤ length bs
  pub grown : Appends old new (take count bs)
