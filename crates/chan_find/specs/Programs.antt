-- The starts of programs in storage. Tests say which starts are listed, no definition does.
use Rattle.std.specs.Prelude.{◌≡◌, ◌⊎◌, ◌++◌, ◌∷◌, ℕ, List, []}
use Rattle.std.specs.List.{All}
use Rattle.std.specs.List.Sorted.{IsStrictlyIncreasing}
use Rattle.ccw_core.specs.Storage.{Stands}

-- starts in storage, each once, in order; a CCW stands at each
pub record AreStarts (s starts : List ℕ) : Type 0 where
  pub ordered : IsStrictlyIncreasing starts
  pub stand : All (Stands s) starts

-- a start was offered: the list is as it was, or it has the start too, at which a CCW stands
abbrev pub IsOffered : List ℕ → ℕ → List ℕ → List ℕ → Type 0
IsOffered s a old new = (new ≡ old) ⊎ (Stands s a × (new ≡ old ++ a ∷ []))
