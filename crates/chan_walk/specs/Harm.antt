-- Harm: what a run does where a promise of a yes fails. Every witness of a no does it.
use Rattle.std.specs.Prelude.{ℕ, List, ◌∷◌, ◌++◌, ◌⊎◌, ◌↔◌}
use Rattle.chan_walk.specs.declared.job.Job.{Job}
use Rattle.chan_walk.specs.declared.place.Place.{Place}
use Rattle.chan_walk.specs.declared.reason.Reason.{Reason}
use Rattle.chan_walk.specs.declared.reason.Reason.TheVariants.{Misaligned, OutsideStorage}
use Rattle.chan_walk.specs.declared.reason.Reason.TheVariants.{TransferNotAllowed, InvalidCode}
use Rattle.chan_walk.specs.declared.reason.Reason.TheVariants.{BadFormat, ZeroCount, DataOutside}
use Rattle.chan_walk.specs.declared.reason.Reason.TheVariants.{NotInTable, Inhibited, StoreNotLent}
use Rattle.chan_walk.specs.declared.reason.Reason.TheVariants.{FetchNotLent, ShortSeek, SeekOutside}
use Rattle.chan_walk.specs.declared.reason.Reason.TheVariants.{ChangesCcw, ChangesArgument}
use Rattle.chan_walk.specs.declared.reason.Reason.TheVariants.{WeakensMask}
use Rattle.chan_walk.specs.declared.verdict.Verdict.TheVariants.{No}
use Rattle.chan_walk.specs.Alarm.{ArePlaces, IsProper, IsUsed, ShowsReason}
use Rattle.chan_walk.specs.Argument.{Has}
use Rattle.chan_walk.specs.Headline.{HoldsInitialByte, IsSafe, IsSafeEvent, IsSafeMoment, IsSteady}
use Rattle.chan_walk.specs.Headline.{MeetsNoProgramCheck}
use Rattle.chan_walk.specs.Machine.{Event}
use Rattle.chan_walk.specs.Runs.{Moment, IsRun}
use Rattle.chan_walk.specs.Verdict.{IsVerdict}

-- at m a byte that some run uses doesn't have its first value
abbrev pub IsUnsteady : Job → Moment → Type 0
IsUnsteady j m = (b : ℕ) × IsUsed j b × (HoldsInitialByte j b m → ⊥)

-- a moment does harm: it isn't safe, or a byte that some run uses has changed
abbrev pub IsHarm : Job → Moment → Type 0
IsHarm j m = (IsSafeMoment j m → ⊥) ⊎ IsUnsteady j m

-- a run does harm: one of its moments does
abbrev pub DoesHarm : Job → List Moment → Type 0
DoesHarm j run = (m : Moment) × Has run m × IsHarm j m

-- some run does harm
abbrev pub MayHarm : Job → Type 0
MayHarm j = (run : List Moment) × IsRun j run × DoesHarm j run

-- harm is the negation of the promise: every run is safe and the job is steady exactly if no run
-- does harm
abbrev pub HarmlessIsSafe : Type 0
HarmlessIsSafe = (j : Job) → (IsSafe j × IsSteady j) ↔ (MayHarm j → ⊥)

-- where the verdict is no, some run does harm
abbrev pub NoIsHarm : Type 0
NoIsHarm = (j : Job) (a : ℕ) (r : Reason) → IsProper j → IsVerdict j (No a r) → MayHarm j

-- ---- which promise a reason breaks

-- a program check stopped the program
abbrev pub IsStopped : Moment → Type 0
IsStopped m = MeetsNoProgramCheck m.stage → ⊥

-- an event of the step to m isn't safe
abbrev pub HasUnsafeEvent : Job → Moment → Type 0
HasUnsafeEvent j m = (e : Event) × Has m.events e × (IsSafeEvent j e → ⊥)

-- what the moment that shows a reason breaks: by 1 to 7 the program is stopped; by 8 to 11, 13 and
-- 16 an event isn't safe; by 12 one of these two; by 14 and 15 what some run uses has changed
abbrev pub BreaksHeadline : Job → Reason → Moment → Type 0
BreaksHeadline j Misaligned m = IsStopped m
BreaksHeadline j OutsideStorage m = IsStopped m
BreaksHeadline j TransferNotAllowed m = IsStopped m
BreaksHeadline j InvalidCode m = IsStopped m
BreaksHeadline j BadFormat m = IsStopped m
BreaksHeadline j ZeroCount m = IsStopped m
BreaksHeadline j DataOutside m = IsStopped m
BreaksHeadline j NotInTable m = HasUnsafeEvent j m
BreaksHeadline j Inhibited m = HasUnsafeEvent j m
BreaksHeadline j StoreNotLent m = HasUnsafeEvent j m
BreaksHeadline j FetchNotLent m = HasUnsafeEvent j m
BreaksHeadline j ShortSeek m = HasUnsafeEvent j m ⊎ IsStopped m
BreaksHeadline j SeekOutside m = HasUnsafeEvent j m
BreaksHeadline j ChangesCcw m = IsUnsteady j m
BreaksHeadline j ChangesArgument m = IsUnsteady j m
BreaksHeadline j WeakensMask m = HasUnsafeEvent j m

-- a run over the places ps to p goes on to a moment that does harm, and breaks a promise in the way
-- of a reason
pub record BreaksAt (j : Job) (p : Place) (ps : List Place) (r : Reason) : Type 0 where
  pub run : List Moment
  pub more : List Moment
  pub last : Moment
  pub is_run : IsRun j (last ∷ (more ++ run))
  pub over : ArePlaces run (p ∷ ps)
  pub harm : IsHarm j last
  pub breaks : BreaksHeadline j r last

-- whatever is shown for a reason does harm, and breaks a promise in its way
abbrev pub ShownBreaks : Type 0
ShownBreaks =
    (j : Job) (p : Place) (ps : List Place) (r : Reason) → ShowsReason j p ps r → BreaksAt j p ps r
