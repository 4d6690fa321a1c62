-- What an answer of the verifier promises.
use Rattle.std.specs.Prelude.{◌≡◌, ◌≤◌, ◌↔◌, ℕ, List, length}
use Rattle.chan_walk.specs.declared.job.Job.{Job}
use Rattle.chan_walk.specs.declared.place.Place.{Place}
use Rattle.chan_walk.specs.declared.verdict.Verdict.{Verdict}
use Rattle.chan_walk.specs.declared.verdict.Verdict.TheVariants.{Yes, No}
use Rattle.chan_walk.specs.Alarm.{IsShownAt}
use Rattle.chan_walk.specs.Harm.{MayHarm}
use Rattle.chan_walk.specs.Places.{AreReachable, HasMoreThan}
use Rattle.chan_walk.specs.Headline.{IsSafe, IsSafeAmong, IsSteady, IsSteadyAmong}
use Rattle.chan_walk.specs.Verdict.{IsVerdict}

-- sound among others: a yes covers every run during which others change any bytes of storage but
-- the guarded ones, so that each is safe and the job is steady
abbrev pub IsSoundAmong : Job → Verdict → Type 0
IsSoundAmong j v = v ≡ Yes → IsSafeAmong j × IsSteadyAmong j

-- a no has a witness: a run that comes to a place with its address and shows its reason there; and
-- some run does harm
abbrev pub HasWitness : Job → Verdict → Type 0
HasWitness j Yes = Unit {0}
HasWitness j (No a r) = (p : Place) × (p.address ≡ a) × IsShownAt j p r × MayHarm j

-- there are n reachable places or fewer
pub record HasAtMost (j : Job) (n : ℕ) : Type 0 where
  pub places : List Place
  pub are : AreReachable j places
  pub few : length places ≤ n

-- that many and no more: there is no answer where too many places are reachable
abbrev pub FewIsNotMany : Type 0
FewIsNotMany = (j : Job) (n : ℕ) → HasAtMost j n → HasMoreThan j n → ⊥

-- what an answer promises: it is the verdict; it is yes exactly for a job that is safe in every run
-- and steady; a yes covers runs among others too; a no has a witness; and no more places are
-- reachable than the job's limit
pub record IsAnswer (j : Job) (v : Verdict) : Type 0 where
  pub verdict : IsVerdict j v
  pub exact : (v ≡ Yes) ↔ (IsSafe j × IsSteady j)
  pub among : IsSoundAmong j v
  pub witness : HasWitness j v
  pub few : HasAtMost j j.limit
