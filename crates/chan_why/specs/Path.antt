-- The path to a place for which something holds, and how it is found in a walk.
use Rattle.std.specs.Prelude.{◌≡◌, ℕ, ◌<◌, List, ◌∷◌, reverse, slice_get, Option, Some, None}
use Rattle.chan_walk.specs.declared.job.Job.{Job}
use Rattle.chan_walk.specs.declared.place.Place.{Place}
use Rattle.chan_walk.specs.Paths.{IsFirstOf}
use Rattle.chan_walk.specs.Reachable.{IsPath}
use Rattle.chan_walk.specs.Walk.{IsBestPath}

-- the path to a place for which P holds: before lead to last, and they are the first of all such
-- paths
pub record IsPathWhere (j : Job) (P : Place → Type 0) (last : Place) (before : List Place)
    : Type 0 where
  pub path : IsPath j (last ∷ before)
  pub holds : P last
  pub first : (q : Place) (qs : List Place) → IsPath j (q ∷ qs) → P q
      → IsFirstOf j (last ∷ before) (q ∷ qs)

-- these places, from the first place on, are the path to a place for which P holds
pub record ArePathWhere (j : Job) (P : Place → Type 0) (places : List Place) : Type 0 where
  pub last : Place
  pub before : List Place
  pub is : places ≡ reverse (last ∷ before)
  pub path : IsPathWhere j P last before

-- these places, from the first place on, are this path to the place at k
pub record IsPathAt (j : Job) (ps : List Place) (k : ℕ) (places : List Place) : Type 0 where
  pub last : Place
  pub before : List Place
  pub is : places ≡ reverse (last ∷ before)
  pub best : IsBestPath j ps k last before

-- the index of the first of the places for which P holds, or that it holds for none
abbrev pub IsFirstWhere : (Place → Type 0) → List Place → Option ℕ → Type 0
IsFirstWhere P ps None = (k : ℕ) (p : Place) → slice_get ps k ≡ Some p → P p → ⊥
IsFirstWhere P ps (Some i) =
    ((p : Place) × (slice_get ps i ≡ Some p) × P p)
    × ((k : ℕ) (p : Place) → k < i → slice_get ps k ≡ Some p → P p → ⊥)
