-- The path to a place: the shortest, and of several the one that goes to next where another goes to
-- skip.
use Rattle.std.specs.Prelude.{◌≡◌, ◌<◌, List, [], ◌∷◌, length, Some, ◌⊎◌}
use Rattle.chan_walk.specs.declared.job.Job.{Job}
use Rattle.chan_walk.specs.declared.place.Place.{Place}
use Rattle.chan_walk.specs.Fault.{kind_of}
use Rattle.chan_walk.specs.Place.{ccw_of}
use Rattle.chan_walk.specs.Successor.{next_of, skip_of}

-- q is the next place after p
abbrev pub IsNext : Job → Place → Place → Type 0
IsNext j p q = next_of p (ccw_of j p) (kind_of p.entered (ccw_of j p)) ≡ Some q

-- q is the place skipped to after p
abbrev pub IsSkip : Job → Place → Place → Type 0
IsSkip j p q = skip_of p (ccw_of j p) (kind_of p.entered (ccw_of j p)) ≡ Some q

-- of two lists of places, the newest first: at the first place where they part, the one goes on to
-- next and the other to skip
abbrev pub PartsByNext : Job → List Place → List Place → Type 0
PartsByNext j [] qs = ⊥
PartsByNext j (p ∷ ps) [] = ⊥
PartsByNext j (p ∷ []) (q ∷ qs) = ⊥
PartsByNext j (p ∷ a ∷ ps) (q ∷ []) = ⊥
PartsByNext j (p ∷ a ∷ ps) (q ∷ b ∷ qs) =
    PartsByNext j (a ∷ ps) (b ∷ qs) ⊎ ((a ∷ ps ≡ b ∷ qs) × IsNext j a p × IsSkip j a q)

-- the one is shorter, or they are equally long and the same, or part so
abbrev pub IsFirstOf : Job → List Place → List Place → Type 0
IsFirstOf j ps qs =
    (length ps < length qs) ⊎ ((length ps ≡ length qs) × ((ps ≡ qs) ⊎ PartsByNext j ps qs))
