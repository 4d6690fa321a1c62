-- The programs that are found in an image of storage, a line for each.
use Rattle.std.specs.Prelude.{◌≡◌, ◌⊎◌, ◌<◌, ◌-◌, ℕ, Bool, not, List, [], ◌∷◌, ◌++◌, take}
use Rattle.std.specs.Prelude.{Option, Some, None, is_some, nat_eq}
use Rattle.chan_deck.specs.Reading.{is_empty}
use Rattle.std.specs.Io.KnownBytes.{Appends}
use Rattle.ccw_core.specs.Written.{AppendsPrefix}
use Rattle.chan_deck.specs.PartsValue.{storage_with}
use Rattle.chan_deck.specs.Shape.{HasPlaceCount}
use Rattle.chan_deck.specs.VerdictLine.{program_line, unjudged_line}
use Rattle.chan_walk.specs.declared.job.Job.{Job}
use Rattle.chan_walk.specs.declared.verdict.Verdict.{Verdict}
use Rattle.chan_walk.specs.Answers.{IsAnswer}
use Rattle.chan_walk.specs.Places.{HasMoreThan}
use Rattle.chan_walk.specs.OpenJob.{IsOpenJob}
use Rattle.chan_find.specs.Programs.{AreStarts}
use Rattle.chan_run.specs.Image.{IsNoImage, IsProgramAt, IsWholeImage}
use Rattle.chan_deck.specs.ImageNote.{deck_note, find_note}
use Rattle.chan_run.specs.Output.{IsUnwritten}
use Rattle.chan_run.specs.Response.{IsDelivered, IsResponseWithoutOutput}
use Rattle.chan_run.specs.declared.image_programs.TheConstants.{PLACES_JUDGED}
use Rattle.chan_run.specs.declared.failure.Failure.{Failure}
use Rattle.chan_run.specs.declared.response.Response.{Response}
use Rattle.chan_run.specs.declared.failure.Failure.TheVariants as failures
use Rattle.chan_run.specs.declared.outcome.Outcome.{Outcome}
use Rattle.chan_run.specs.declared.outcome.Outcome.TheVariants.{Done, Failed}
use Rattle.chan_args.specs.declared.image_options.ImageOptions.{ImageOptions}

-- the verdict on a job, or none, since more places are reachable than its limit
abbrev pub IsVerdictOrNone : Job → Option Verdict → Type 0
IsVerdictOrNone k (Some v) = IsAnswer k v
IsVerdictOrNone k None = HasMoreThan k k.limit

-- how many places are judged for it: all that are reachable, or if they are more than the limit, as
-- many as that
abbrev pub AreJudged : Job → Option Verdict → ℕ → Type 0
AreJudged k (Some v) n = HasPlaceCount k n
AreJudged k None n = n ≡ k.limit

-- the line of a job's program says the verdict on its open job, for which so many places are
-- judged, and what the program looks like, of which tests hold the text
pub record IsProgramLine (j : Job) (line : List ℕ) (places : ℕ) : Type 0 where
  pub opened : Job
  pub is_open : IsOpenJob j opened
  pub verdict : Option Verdict
  pub judged : IsVerdictOrNone opened verdict
  pub counted : AreJudged opened verdict places
  pub shape : List ℕ
  pub is : line ≡ program_line j.start verdict shape

-- the line of the program that begins at an address in an image, if it is judged
abbrev pub IsJudgedAt : ImageOptions → List ℕ → ℕ → List ℕ → ℕ → Type 0
IsJudgedAt o image a line places = (j : Job) × IsProgramAt o image a j × IsProgramLine j line places

-- its line, if so many places are left to be judged before it, and so many after it: it is judged
-- exactly if any is left
abbrev pub IsLineAt : ImageOptions → List ℕ → ℕ → ℕ → List ℕ → ℕ → Type 0
IsLineAt o image a left line after =
    ((left ≡ 0) × (line ≡ unjudged_line a) × (after ≡ 0))
    ⊎ ((0 < left) × (places : ℕ) × IsJudgedAt o image a line places × (after ≡ left - places))

-- the text has the line of the program at each of these addresses, in order
abbrev pub AreLinesAt : ImageOptions → List ℕ → ℕ → List ℕ → List ℕ → ℕ → Type 0
AreLinesAt o image left [] text after = (text ≡ []) × (after ≡ left)
AreLinesAt o image left (a ∷ starts) text after =
    (line : List ℕ) × (rest : List ℕ) × (between : ℕ) × IsLineAt o image a left line between
    × AreLinesAt o image between starts rest after × (text ≡ line ++ rest)

-- starts of programs in an image
abbrev pub AreStartsInImage : ImageOptions → List ℕ → List ℕ → Type 0
AreStartsInImage o image = AreStarts (storage_with o.at image)

-- the lines of the first programs in an image were written so
pub record AreWritten (Wrote : List ℕ → Type 0) (o : ImageOptions) (image : List ℕ)
    (starts : List ℕ) : Type 0 where
  pub text : List ℕ
  pub after : ℕ
  pub lines : AreLinesAt o image PLACES_JUDGED starts text after
  pub written : Wrote text

-- what each outcome of a search says of an image and the output: all lines were written; or, if a
-- write failed, a prefix of the lines of the first programs; or, if memory ran out, these lines
abbrev pub IsSearchOutput : ImageOptions → List ℕ → Option (List ℕ) → Option (List ℕ)
    → Outcome → Type 0
IsSearchOutput o image old new Done =
    (starts : List ℕ) × AreStartsInImage o image starts
    × AreWritten (Appends old new) o image starts
IsSearchOutput o image old new (Failed failures.WriteFailed) =
    (starts : List ℕ) × AreStartsInImage o image starts
    × (n : ℕ) × AreWritten (AppendsPrefix old new) o image (take n starts)
IsSearchOutput o image old new (Failed failures.OutOfMemory) =
    IsUnwritten old new ⊎ ((starts : List ℕ) × AreStartsInImage o image starts
    × (n : ℕ) × AreWritten (Appends old new) o image (take n starts))
IsSearchOutput o image old new _ = ⊥

-- the note on an image that was searched, by what came of the search
abbrev pub IsFindNote : ImageOptions → List ℕ → Outcome → List ℕ → Type 0
IsFindNote o image Done note =
    (starts : List ℕ) × AreStartsInImage o image starts
    × (note ≡ find_note image (not (is_empty starts)) (not (nat_eq o.at 0)) (is_some o.size))
IsFindNote o image outcome note = note ≡ deck_note image

-- the input was read to its end, and its image was searched: only the end is left to be delivered
pub record IsSearched (o : ImageOptions) (old_in new_in old mid : Option (List ℕ)) (r : Response)
    : Type 0 where
  pub image : List ℕ
  pub input : IsWholeImage o old_in new_in image
  pub outcome : Outcome
  pub found : IsSearchOutput o image old mid outcome
  pub note : List ℕ
  pub noted : IsFindNote o image outcome note
  pub is : IsResponseWithoutOutput outcome note r

-- it wasn't read, and nothing was written
abbrev pub IsUnsearched : ImageOptions → Option (List ℕ) → Option (List ℕ) → Option (List ℕ)
    → Option (List ℕ) → Response → Type 0
IsUnsearched o old_in new_in old mid r =
    (failure : Failure) × IsNoImage o old_in new_in failure
    × IsResponseWithoutOutput (Failed failure) [] r × (mid ≡ old)

-- what is left to be delivered of a search for programs, when its lines are written
abbrev pub IsFindResponse : ImageOptions → Option (List ℕ) → Option (List ℕ) → Option (List ℕ)
    → Option (List ℕ) → Response → Type 0
IsFindResponse o old_in new_in old mid r =
    IsSearched o old_in new_in old mid r ⊎ IsUnsearched o old_in new_in old mid r

-- what a search for programs comes to: its lines were written, and then its end was delivered
abbrev pub IsFindDelivered : Option (List ℕ) → ImageOptions → Option (List ℕ) → Option (List ℕ)
    → Option (List ℕ) → Option (List ℕ) → Option (List ℕ) → Option (List ℕ) → Bool → Outcome
    → Type 0
IsFindDelivered name o old_in new_in old new old_errors new_errors failed end =
    (mid : Option (List ℕ)) × (r : Response) × IsFindResponse o old_in new_in old mid r
    × IsDelivered name r mid new old_errors new_errors failed end
