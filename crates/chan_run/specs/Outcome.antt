-- The exit status of each outcome, and its line on standard error.
use Rattle.std.specs.Prelude.{◌≡◌, ◌++◌, ◌∷◌, ℕ, true, List, [], Option, Result, Ok, Err, codes}
use Rattle.std.specs.Fmt.{decimal}
use Rattle.ccw_core.specs.declared.watched.DeviceFault.{DeviceFault}
use Rattle.chan_run.specs.declared.failure.Failure.TheVariants as failures
use Rattle.chan_run.specs.declared.judging.RunError.{RunError}
use Rattle.chan_run.specs.declared.judging.RunError.TheVariants as runs
use Rattle.chan_run.specs.declared.judging.Status.{Status}
use Rattle.chan_run.specs.declared.judging.Status.TheVariants as statuses
use Rattle.chan_run.specs.declared.one_ccw.ShowError.{ShowError}
use Rattle.chan_run.specs.declared.one_ccw.ShowError.TheVariants as shows
use Rattle.chan_run.specs.declared.outcome.Outcome.{Outcome}
use Rattle.chan_run.specs.declared.outcome.Outcome.TheVariants.{Done, Denied, Refused}
use Rattle.chan_run.specs.declared.outcome.Outcome.TheVariants.{NoJob, Unknown, Failed}
use Rattle.chan_run.specs.Failure.{texts_of_failure}
use Rattle.chan_deck.specs.CauseWord.{word_of_cause}
use Rattle.chan_run.specs.Name.{name_before}

-- what each answer is, as an outcome
abbrev pub outcome_of_show : Result (Unit {0}) ShowError → Outcome
outcome_of_show (Ok _) = Done
outcome_of_show (Err shows.NotCcw) = Failed failures.NotCcw
outcome_of_show (Err shows.Memory) = Failed failures.OutOfMemory
outcome_of_show (Err shows.Write) = Failed failures.WriteFailed

abbrev pub outcome_of_run : Result Status RunError → Outcome
outcome_of_run (Ok statuses.Yes) = Done
outcome_of_run (Ok statuses.No) = Denied
outcome_of_run (Err runs.Read) = Failed failures.ReadFailed
outcome_of_run (Err runs.TooLong) = Failed failures.DeckTooLong
outcome_of_run (Err (runs.Deck line cause)) = Refused line cause
outcome_of_run (Err runs.TooManyPlaces) = Failed failures.TooManyPlaces
outcome_of_run (Err runs.Write) = Failed failures.WriteFailed
outcome_of_run (Err runs.Memory) = Failed failures.OutOfMemory

-- a run over a deck ends so, if it doesn't fail to write
abbrev pub IsRunEnd : Outcome → Type 0
IsRunEnd Done = Unit {0}
IsRunEnd Denied = Unit {0}
IsRunEnd (Refused line cause) = Unit {0}
IsRunEnd (Failed failures.ReadFailed) = Unit {0}
IsRunEnd (Failed failures.DeckTooLong) = Unit {0}
IsRunEnd (Failed failures.TooManyPlaces) = Unit {0}
IsRunEnd (Failed failures.OutOfMemory) = Unit {0}
IsRunEnd end = ⊥

-- an image that was read ends so, if its deck can be written
abbrev pub IsImageEnd : Outcome → Type 0
IsImageEnd (Failed failures.ReadFailed) = ⊥
IsImageEnd (Failed failures.WriteFailed) = ⊥
IsImageEnd end = Unit {0}

abbrev pub outcome_of_write : Result (Unit {0}) DeviceFault → Outcome
outcome_of_write (Ok _) = Done
outcome_of_write (Err fault) = Failed failures.WriteFailed

abbrev pub status_of : Outcome → ℕ
status_of Done = 0
status_of Denied = 1
status_of (Refused line cause) = 2
status_of (NoJob a r) = (texts_of_failure failures.NoJobWillDo).status
status_of (Unknown word) = (texts_of_failure failures.NoSuchWord).status
status_of (Failed failure) = (texts_of_failure failure).status

-- all was done that was asked for, so that the output is flushed
abbrev pub IsCarriedOut : Outcome → Type 0
IsCarriedOut Done = Unit {0}
IsCarriedOut Denied = Unit {0}
IsCarriedOut _ = ⊥

-- the line of an outcome over an input that may have a name; an outcome that says nothing has none.
-- A line on the input names it; any other is on the program or on what it writes
abbrev pub line_over : Option (List ℕ) → Outcome → List ℕ
line_over name (Refused number cause) =
    codes "chanv: " ++ (name_before name true ++ (codes "deck line "
    ++ (decimal number ++ (codes ": " ++ (word_of_cause cause ++ 10 ∷ [])))))
line_over name (Unknown word) =
    codes "chanv: " ++ (name_before name true ++ (codes "no such word; the nearest is "
    ++ (word.now ++ codes ", and chanv explain lists all words\n")))
line_over name (Failed failure) =
    codes "chanv: "
    ++ (name_before name (texts_of_failure failure).on_input ++ (texts_of_failure failure).line)
line_over name _ = []

-- a write failed, so that nothing more can be written
abbrev pub IsWriteFailure : Outcome → Type 0
IsWriteFailure outcome = outcome ≡ Failed failures.WriteFailed
