-- What is answered to an input: the outcome, and the bytes for each of two writers; and what the
-- writers got of it.
use Rattle.std.specs.Prelude.{◌≡◌, ◌⊎◌, ◌++◌, ◌||◌, ℕ, Bool, false, true, List, [], Option}
use Rattle.std.specs.Prelude.{None, Some, is_some, option_map}
use Rattle.std.specs.Global.{Vec}
use Rattle.std.specs.Io.KnownBytes.{Appends}
use Rattle.ccw_core.specs.Written.{AppendsPrefix}
use Rattle.chan_args.specs.declared.action.Action.{Action}
use Rattle.chan_deck.specs.Refused.{IsRefused}
use Rattle.chan_deck.specs.declared.cause.Cause.{Cause}
use Rattle.chan_walk.specs.Answers.{IsAnswer}
use Rattle.chan_walk.specs.Places.{HasMoreThan}
use Rattle.chan_walk.specs.declared.job.Job.{Job}
use Rattle.chan_walk.specs.declared.verdict.Verdict.{Verdict}
use Rattle.chan_walk.specs.declared.verdict.Verdict.TheVariants.{Yes, No}
use Rattle.chan_run.specs.Input.{IsInput, IsReadFault}
use Rattle.chan_run.specs.Manner.{is_advised, manner_of}
use Rattle.chan_run.specs.Name.{name_of}
use Rattle.chan_run.specs.Outcome.{IsCarriedOut, line_over}
use Rattle.chan_run.specs.Output.{IsActionOutput, HoldsOfDeckJob, ActionJudges}
use Rattle.chan_run.specs.Texts.{WriterGot}
use Rattle.chan_run.specs.declared.answer.Answer.{Answer}
use Rattle.chan_run.specs.declared.failure.Failure.{Failure}
use Rattle.chan_run.specs.declared.failure.Failure.TheVariants as failures
use Rattle.chan_run.specs.declared.name.Naming.{Naming}
use Rattle.chan_run.specs.declared.outcome.Outcome.{Outcome}
use Rattle.chan_run.specs.declared.outcome.Outcome.TheVariants.{Denied, Done, Failed, Refused}
use Rattle.chan_run.specs.declared.response.Response.{Response}

-- ---- the answer to a text

-- the bytes of the advice, if memory lasted for it
abbrev pub advice_in : Option (Vec ℕ) → Option (List ℕ)
advice_in = option_map (λ text. text.items)

-- there is no advice unless some is wanted; what it says is held by tests
abbrev pub IsWantedAdvice : Bool → Option (List ℕ) → Type 0
IsWantedAdvice false advice = advice ≡ Some []
IsWantedAdvice true advice = Unit {0}

-- the answer to an action on a job with this verdict: the output that it asks for, with advice if
-- the verdict is explained or the needs are listed
pub record IsActionAnswer (n : Naming) (a : Action) (j : Job) (v : Verdict) (answer : Answer)
    : Type 0 where
  pub output : IsActionOutput n a j v answer.output.items
  pub advice : IsWantedAdvice (is_advised a) (advice_in answer.advice)

-- only this outcome and this note, without an output or advice
pub record IsBareResponse (end : Outcome) (remark : List ℕ) (r : Response) : Type 0 where
  pub outcome : r.outcome ≡ end
  pub output : r.output.items ≡ []
  pub advice : advice_in r.advice ≡ Some []
  pub note : r.note.now ≡ remark

-- the same, but for notes, of which tests hold the texts
pub record IsResponseWithoutOutput (end : Outcome) (remark : List ℕ) (r : Response) : Type 0 where
  pub outcome : r.outcome ≡ end
  pub output : r.output.items ≡ []
  pub note : r.note.now ≡ remark

-- the outcome of an answer with this verdict
abbrev pub outcome_of : Verdict → Outcome
outcome_of Yes = Done
outcome_of (No address reason) = Denied

-- the job was judged, and this is the answer of its verdict
pub record IsVerdictResponse (n : Naming) (a : Action) (j : Job) (r : Response) : Type 0 where
  pub verdict : Verdict
  pub is : IsAnswer j verdict
  pub outcome : r.outcome ≡ outcome_of verdict
  pub output : IsActionOutput n a j verdict r.output.items
  pub advice : IsWantedAdvice (is_advised a) (advice_in r.advice)
  pub note : r.note.now ≡ []

-- too many places are reachable
pub record IsLimitResponse (n : Naming) (a : Action) (j : Job) (r : Response) : Type 0 where
  pub many : HasMoreThan j j.limit
  pub outcome : r.outcome ≡ Failed failures.TooManyPlaces
  pub output : r.output.items ≡ []
  pub advice : IsWantedAdvice (is_some n.name || (manner_of a).tells_limit) (advice_in r.advice)
  pub note : r.note.now ≡ []

-- the text isn't a deck; the hint comes if it is explained or drawn, or has a name
pub record IsRefusalResponse (n : Naming) (a : Action) (t : List ℕ) (r : Response) : Type 0 where
  pub line : ℕ
  pub cause : Cause
  pub refused : IsRefused t line cause
  pub outcome : r.outcome ≡ Refused line cause
  pub output : r.output.items ≡ []
  pub advice : IsWantedAdvice (is_some n.name || (manner_of a).always_hints) (advice_in r.advice)
  pub note : r.note.now ≡ []

-- the answer to what an action asks of a job: that of the job that it judges
abbrev pub IsJobResponse : Naming → Action → Job → Response → Type 0
IsJobResponse n a j r =
    (k : Job) × ActionJudges a j k × (IsVerdictResponse n a k r ⊎ IsLimitResponse n a k r)

-- the answer to what an action asks of a text, where memory lasts
abbrev pub IsTextResponse : Naming → Action → List ℕ → Response → Type 0
IsTextResponse n a t r = IsRefusalResponse n a t r ⊎ HoldsOfDeckJob t (λ j. IsJobResponse n a j r)

-- there is one outcome
abbrev pub OneOutcome : Type 0
OneOutcome =
    (n : Naming) (a : Action) (t : List ℕ) (r q : Response) → IsTextResponse n a t r
    → IsTextResponse n a t q → r.outcome ≡ q.outcome

-- the answer to what an action asks of a text
abbrev pub IsResponse : Naming → Action → List ℕ → Response → Type 0
IsResponse n a t r = IsBareResponse (Failed failures.OutOfMemory) [] r ⊎ IsTextResponse n a t r

-- the answer to an input: to its text, or why that wasn't read
abbrev pub IsInputResponse : Naming → Action → Option (List ℕ) → Option (List ℕ) → Response
    → Type 0
IsInputResponse n a old new r =
    ((t : List ℕ) × IsInput old new t × IsResponse n a t r)
    ⊎ ((failure : Failure) × IsReadFault old new failure × IsBareResponse (Failed failure) [] r)

-- ---- its delivery

-- what a writer got of an answer's output: all of it if all was done, and else nothing; or a write
-- failed, and it got a prefix
abbrev pub IsOutputWritten : Response → Option (List ℕ) → Option (List ℕ) → Outcome → Type 0
IsOutputWritten r old new end =
    ((end ≡ r.outcome) × (IsCarriedOut end → Appends old new r.output.items)
    × ((IsCarriedOut end → ⊥) → new ≡ old))
    ⊎ ((end ≡ Failed failures.WriteFailed) × IsCarriedOut r.outcome
    × AppendsPrefix old new r.output.items)

-- what is said of advice: its text, or the line that memory ran out for it
abbrev pub advice_bytes : Option (List ℕ) → Option (List ℕ) → List ℕ
advice_bytes name None = line_over name (Failed failures.OutOfMemory)
advice_bytes name (Some text) = text

-- the line of an answer, and what is said beside it
abbrev pub error_text_of : Option (List ℕ) → Response → List ℕ
error_text_of name r =
    line_over name r.outcome ++ (advice_bytes name (advice_in r.advice) ++ r.note.now)

-- the line of a failed write, with only the note beside it
abbrev pub error_text_unwritten : Option (List ℕ) → Response → List ℕ
error_text_unwritten name r = line_over name (Failed failures.WriteFailed) ++ r.note.now

-- the first writer got the output of an answer, and the second what is said of it; or the first
-- failed, and the second got the line of that
abbrev pub IsDelivered : Option (List ℕ) → Response → Option (List ℕ) → Option (List ℕ)
    → Option (List ℕ) → Option (List ℕ) → Bool → Outcome → Type 0
IsDelivered name r old new old_errors new_errors failed end =
    IsOutputWritten r old new end
    × (((end ≡ r.outcome) × WriterGot (error_text_of name r) old_errors new_errors failed)
    ⊎ ((end ≡ Failed failures.WriteFailed)
    × WriterGot (error_text_unwritten name r) old_errors new_errors failed))

-- what a run over an input that is named so comes to: a writer got the output of its answer
abbrev pub IsRunOutput : Naming → Action → Option (List ℕ) → Option (List ℕ)
    → Option (List ℕ) → Option (List ℕ) → Outcome → Type 0
IsRunOutput n a old_in new_in old new end =
    (r : Response) × IsInputResponse n a old_in new_in r × IsOutputWritten r old new end

-- what an input comes to that is named so: its answer was delivered
abbrev pub IsInputDelivered : Naming → Action → Option (List ℕ) → Option (List ℕ)
    → Option (List ℕ) → Option (List ℕ) → Option (List ℕ) → Option (List ℕ) → Bool → Outcome
    → Type 0
IsInputDelivered n a old_in new_in old new old_errors new_errors failed end =
    (r : Response) × IsInputResponse n a old_in new_in r
    × IsDelivered (name_of n) r old new old_errors new_errors failed end
