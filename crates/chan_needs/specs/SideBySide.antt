-- Programs that run side by side on one storage.
use Rattle.std.specs.Prelude.{◌≡◌, ℕ, List, [], ◌∷◌, map, ◌⊎◌}
use Rattle.std.specs.List.{AllByRecursion}
use Rattle.chan_walk.specs.declared.job.Job.{Job}
use Rattle.chan_walk.specs.declared.verdict.Verdict.TheVariants.{Yes}
use Rattle.chan_walk.specs.Alarm.{IsProper, IsUsed}
use Rattle.chan_walk.specs.Guarded.{IsGuarded}
use Rattle.chan_walk.specs.Headline.{HoldsInitialByte, IsSafeMoment}
use Rattle.chan_walk.specs.Job.{storage_of, HasMask}
use Rattle.chan_walk.specs.Runs.{Moment, IsStart, Steps, Waits}
use Rattle.chan_walk.specs.Verdict.{IsVerdict, MayStoreOver}

-- two programs at one moment, on one storage, each with an arm, a mask and a stage of its own
pub record TwoMoments : Type 0 where
  pub one : Moment
  pub other : Moment
  pub shared : other.storage ≡ one.storage

-- the moments of two programs side by side, the newest first: each step is one of either's, on the
-- one storage, while the other waits
abbrev pub AreRunning : Job → Job → List TwoMoments → Type 0
AreRunning j k [] = ⊥
AreRunning j k (m ∷ []) = IsStart j m.one × IsStart k m.other
AreRunning j k (n ∷ m ∷ ms) =
    AreRunning j k (m ∷ ms)
    × ((Steps m.one n.one × Waits m.other n.other) ⊎ (Waits m.one n.one × Steps m.other n.other))

-- the moments as each of the two sees them
abbrev pub moments_of_one : List TwoMoments → List Moment
moments_of_one = map (λ (m : TwoMoments). m.one)

abbrev pub moments_of_other : List TwoMoments → List Moment
moments_of_other = map (λ (m : TwoMoments). m.other)

-- the verdicts on both are yes, and neither may store over what is guarded by the other
pub record AreJobsCompatible (j k : Job) : Type 0 where
  pub one : IsVerdict j Yes
  pub other : IsVerdict k Yes
  pub one_spares : MayStoreOver j (IsGuarded k) → ⊥
  pub other_spares : MayStoreOver k (IsGuarded j) → ⊥

-- each of the two is then safe
abbrev pub SafeSideBySide : Type 0
SafeSideBySide =
    (j k : Job) → HasMask j → HasMask k → AreJobsCompatible j k → (run : List TwoMoments)
    → AreRunning j k run
    → AllByRecursion (IsSafeMoment j) (moments_of_one run)
    × AllByRecursion (IsSafeMoment k) (moments_of_other run)

-- where one of two programs may store over a byte that is guarded by the other, some run of both
-- changes a byte that the other uses
abbrev pub ConflictIsHarm : Type 0
ConflictIsHarm =
    (j k : Job) → IsProper j → IsProper k → storage_of j ≡ storage_of k → IsVerdict j Yes
    → MayStoreOver j (IsGuarded k)
    → (run : List TwoMoments) × (m : TwoMoments) × (b : ℕ) × AreRunning j k (m ∷ run)
    × IsUsed k b × (HoldsInitialByte k b m.other → ⊥)

-- any two programs may run side by side, each from its start, by the steps of either
pub record MayRunTogether : Type 0 where
  pub begins :
      (j k : Job) (m : TwoMoments) → IsStart j m.one → IsStart k m.other → AreRunning j k (m ∷ [])
  pub one_steps :
      (j k : Job) (n m : TwoMoments) (ms : List TwoMoments) → AreRunning j k (m ∷ ms)
      → Steps m.one n.one
      → Waits m.other n.other → AreRunning j k (n ∷ m ∷ ms)
  pub other_steps :
      (j k : Job) (n m : TwoMoments) (ms : List TwoMoments) → AreRunning j k (m ∷ ms)
      → Waits m.one n.one
      → Steps m.other n.other → AreRunning j k (n ∷ m ∷ ms)
