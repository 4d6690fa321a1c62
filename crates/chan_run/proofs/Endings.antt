-- What was judged, and what was written.
use Rattle.std.proofs.Common.{◌≡◌, ◌∙◌, ◌↔◌, Err, IsErr, Ok, OnOk, Result, false, refl, sym, true}
use Rattle.chan_walk.specs.declared.job.Job.{Job}
use Rattle.chan_args.specs.declared.action.Action.{Action}
use Rattle.chan_args.specs.declared.action.Action.TheVariants as actions
use Rattle.chan_walk.specs.OpenJob.{IsOpenJob}
use Rattle.chan_run.specs.Manner.{manner_of}
use Rattle.chan_run.specs.Output.{ActionJudges}

-- the open job is judged, or the job itself
pub judges_open : (a : Action) (j k : Job) → (manner_of a).judges_open ≡ true → IsOpenJob j k → ActionJudges a j k
judges_open (actions.Needs deck) j k is granted = granted
judges_open a j k is granted = absurd cc

pub judges_itself : (a : Action) (j : Job) → (manner_of a).judges_open ≡ false → ActionJudges a j j
judges_itself (actions.Needs deck) j is = absurd cc
judges_itself a j is = refl

-- what was done where no write failed
pub written_if_sound : {A : Type 0} {E : Type 0} (r : Result (Unit {0}) E) (failed : _) → OnOk r A
    → IsErr r ↔ (failed ≡ true) → failed ≡ false → A
written_if_sound (Ok _) failed all fault sound = all
written_if_sound (Err e) failed all fault sound = let bad : true ≡ false = sym (fault.0 refl) ∙ sound in absurd cc
