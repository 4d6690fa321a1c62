-- What is said of an image if no job will do for its program.
use Rattle.std.specs.Prelude.{◌≡◌, ◌++◌, ℕ, true, List, Option, None, codes, string_bytes}
use Rattle.chan_walk.specs.Answers.{IsAnswer}
use Rattle.chan_walk.specs.declared.job.Job.{Job}
use Rattle.chan_walk.specs.declared.verdict.Verdict.{Verdict}
use Rattle.chan_walk.specs.declared.verdict.Verdict.TheVariants.{No}
use Rattle.chan_run.specs.Image.{HasNoNeeds, HoldsOfOpenJob}
use Rattle.chan_run.specs.Name.{name_before}
use Rattle.chan_deck.specs.Explanation.{IsExplained}
use Rattle.chan_args.specs.declared.image_options.ImageOptions.{ImageOptions}
use Rattle.chan_run.specs.declared.least_job.NoLeastJob.{NoLeastJob}
use Rattle.chan_run.specs.declared.least_job.NoLeastJob.TheVariants.{NoJob, Unknown}
use Rattle.chan_run.specs.declared.outcome.Outcome.TheVariants.{Failed}
use Rattle.chan_run.specs.declared.failure.Failure.TheVariants as failures
use Rattle.chan_args.specs.declared.image_options.RequestedJob.TheVariants as jobs

-- this explains the verdict on an open job; notes follow, of which tests hold the texts
abbrev pub IsExplainedOpenly : Job → List ℕ → Type 0
IsExplainedOpenly k text =
    (v : Verdict) × (explained : List ℕ) × (notes : List ℕ)
    × IsExplained None k v explained × (text ≡ explained ++ notes)

-- why there is no least job for the program in an image: the no on its open job with the
-- explanation, or a failure
abbrev pub HasNoLeastJob : ImageOptions → List ℕ → NoLeastJob → Type 0
HasNoLeastJob o image (NoJob a r why) =
    HoldsOfOpenJob o image (λ k. IsAnswer k (No a r) × IsExplainedOpenly k (string_bytes why))
HasNoLeastJob o image (Unknown failure) = HasNoNeeds o image (Failed failure)

-- why there is no deck: none is made with the least job, which was asked for, or memory ran out
abbrev pub IsNoDeckFor : ImageOptions → List ℕ → NoLeastJob → Type 0
IsNoDeckFor o image (Unknown failures.OutOfMemory) = Unit {0}
IsNoDeckFor o image none = (o.job ≡ jobs.Least) × HasNoLeastJob o image none

-- what comes before the explanation of an image that may have a name
abbrev pub no_job_line : Option (List ℕ) → List ℕ
no_job_line name = codes "chanv: " ++ (name_before name true ++ codes "no job will do: ")

-- what is said of an image that may have a name
abbrev pub IsNoJobText : Option (List ℕ) → ImageOptions → List ℕ → List ℕ → Type 0
IsNoJobText name o image text =
    (explained : List ℕ) × HoldsOfOpenJob o image (λ k. IsExplainedOpenly k explained)
    × (text ≡ no_job_line name ++ explained)
