-- The places that a program can come to, in the initial storage.
use Rattle.std.specs.Prelude.{◌≡◌, List, [], ◌∷◌}
use Rattle.chan_walk.specs.declared.job.Job.{Job}
use Rattle.chan_walk.specs.declared.place.Place.{Place}
use Rattle.chan_walk.specs.Fault.{IsClear}
use Rattle.chan_walk.specs.Place.{first_place}
use Rattle.chan_walk.specs.Successor.{Successor}

-- the places of a path from the first place on, the newest first; a place with an own fault leads
-- nowhere
abbrev pub IsPath : Job → List Place → Type 0
IsPath j [] = ⊥
IsPath j (p ∷ []) = p ≡ first_place j
IsPath j (q ∷ p ∷ ps) = IsPath j (p ∷ ps) × IsClear j p × Successor j p q

-- a path leads to the place
abbrev pub IsReachable : Job → Place → Type 0
IsReachable j p = (ps : List Place) × IsPath j (p ∷ ps)
