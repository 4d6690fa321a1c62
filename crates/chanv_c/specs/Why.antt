-- What the explanation to C promises.
use Rattle.std.specs.Prelude.{◌≡◌, ◌≢◌, ℕ, ◌<◌, List, [], ◌++◌, drop, length, map}
use Rattle.chan_walk.specs.declared.job.Job.{Job}
use Rattle.chan_walk.specs.declared.place.Place.{Place}
use Rattle.chan_walk.specs.declared.verdict.Verdict.{Verdict}
use Rattle.chan_walk.specs.declared.verdict.Verdict.TheVariants.{Yes, No}
use Rattle.chan_walk.specs.Answers.{IsAnswer}
use Rattle.chan_why.specs.Witness.{IsWitnessOf}
use Rattle.chan_walk.specs.Reason.{number_of}
use Rattle.chanv_c.specs.declared.c_job.CJob.{CJob}
use Rattle.chanv_c.specs.declared.why.CExplanation.{CExplanation}
use Rattle.chanv_c.specs.declared.why.WitnessedVerdict.{WitnessedVerdict}
use Rattle.chanv_c.specs.declared.c_place.CPlace.{CPlace}
use Rattle.chanv_c.specs.declared.verify.CVerdict.{CVerdict}
use Rattle.chanv_c.specs.Answers.{place_for_c}
use Rattle.chanv_c.specs.Job.{IsAskedJob}
use Rattle.chanv_c.specs.Evidence.{cause_for_c, no_values}

-- the verdict on the job that C asks about, with all that an answer promises, and what shows it
pub record IsExplanationFor (c : CJob) (x : WitnessedVerdict) : Type 0 where
  pub job : Job
  pub asked : IsAskedJob c job
  pub answer : IsAnswer job x.verdict
  pub shows : IsWitnessOf job x.verdict x.witness

-- a verdict; no extent is wrong
abbrev pub verdict_for_c : Verdict → CVerdict
verdict_for_c Yes = record { extent = 0; address = 0; reason = 0 }
verdict_for_c (No a r) = record { extent = 0; address = a; reason = number_of r }

-- the verdict, how many places the two paths have, and the values of the cause
abbrev pub explanation_for_c : WitnessedVerdict → CExplanation
explanation_for_c x = record {
  verdict = verdict_for_c x.verdict;
  path_count = length x.witness.path.items;
  second_path_count = length x.witness.second_path.items;
  evidence = cause_for_c x.witness.evidence;
  unused = 0;
}

-- only which extent is wrong
abbrev pub no_explanation_for_c : ℕ → CExplanation
no_explanation_for_c extent = record {
  verdict = record { extent = extent; address = 0; reason = 0 };
  path_count = 0;
  second_path_count = 0;
  evidence = no_values;
  unused = 0;
}

-- the verdict is no, and this is told of its explanation
pub record IsWrittenExplanation (c : CJob) (x : WitnessedVerdict) (out : CExplanation) : Type 0
  where
    pub explanation : IsExplanationFor c x
    pub offends : x.verdict ≢ Yes
    pub out_is : out ≡ explanation_for_c x

-- the places stand first; what stood behind them stands there still
abbrev pub AreInFront : List Place → List CPlace → List CPlace → Type 0
AreInFront places old new = new ≡ map place_for_c places ++ drop (length places) old

-- a path is written if it is wanted, which it is if there is some room for it
abbrev pub IsWrittenTo : List Place → List CPlace → List CPlace → Type 0
IsWrittenTo places old new =
    (0 < length old → AreInFront places old new) × (old ≡ [] → new ≡ [])

-- a path that is wanted has more places than there is room for
abbrev pub HasLittleRoomFor : List Place → List CPlace → Type 0
HasLittleRoomFor places room = (0 < length room) × (length room < length places)
