-- The programs that are found in storage, as C asks for them.
use Rattle.std.specs.Prelude.{◌≡◌, ℕ, List, length}
use Rattle.chan_find.specs.Programs.{AreStarts}
use Rattle.chanv_c.specs.Needs.{StandFirst}

-- so many starts of programs were found in storage
abbrev pub HasPrograms : List ℕ → ℕ → Type 0
HasPrograms s count = (starts : List ℕ) × AreStarts s starts × (count ≡ length starts)

-- the list begins with starts of programs in storage, which are so many
abbrev pub AreFoundIn : List ℕ → ℕ → List ℕ → List ℕ → Type 0
AreFoundIn s count old new =
    (starts : List ℕ) × AreStarts s starts × (count ≡ length starts) × StandFirst starts old new
