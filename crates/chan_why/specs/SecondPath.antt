-- What a store changes, as it is found among the places that were looked at.
use Rattle.std.specs.Prelude.{◌≡◌, ℕ, ◌+◌, ◌<◌, List, Option, None}
use Rattle.ccw_core.specs.declared.areas.Area.{Area}
use Rattle.chan_walk.specs.declared.evidence.Evidence.{Evidence}
use Rattle.chan_walk.specs.declared.evidence.Evidence.TheVariants as because
use Rattle.chan_walk.specs.declared.job.Job.{Job}
use Rattle.chan_walk.specs.declared.place.Place.{Place}
use Rattle.chan_walk.specs.declared.argument.GivenBytes.{GivenBytes}
use Rattle.chan_why.specs.Evidence.{IsArgumentIn, IsTakenAt}
use Rattle.chan_areas.specs.Merged.{IsLeastOf}
use Rattle.chan_walk.specs.Guard.{IsArgumentByteOf}
use Rattle.ccw_core.specs.Areas.{end_of}
use Rattle.chan_why.specs.Path.{IsFirstWhere}

-- the data has one of the eight bytes from a on
abbrev pub HasByteOf : Area → ℕ → Type 0
HasByteOf range a = (range.start < a + 8) × (a < end_of range)

-- the evidence that some data is stored over an argument
abbrev pub IsArgumentChange : Job → Area → Evidence → Type 0
IsArgumentChange j range e =
    (b : ℕ) × (taker : ℕ) × (argument : Option GivenBytes)
    × (e ≡ because.ChangesArgument range b taker argument)
    × IsLeastOf (IsArgumentIn j range) b × IsTakenAt j b taker argument

-- the first of the places that the second path may lead to, or that there is none
abbrev pub IsSecondPathEnd : Job → Evidence → List Place → Option ℕ → Type 0
IsSecondPathEnd j (because.ChangesCcw range ccw) ps at = IsFirstWhere (λ q. q.address ≡ ccw) ps at
IsSecondPathEnd j (because.ChangesArgument range b taker argument) ps at =
    IsFirstWhere (λ q. IsArgumentByteOf j q b) ps at
IsSecondPathEnd j _ ps at = at ≡ None
