-- What the program says on standard error in place of an answer, and the status with which it ends.
use Rattle.std.specs.Prelude.{ℕ, Bool, true, false, List, codes}
use Rattle.chan_run.specs.declared.failure.Failure.{Failure}
use Rattle.chan_run.specs.declared.failure.Failure.TheVariants as failures

-- a failure's line, the exit status, and whether the line names the input
pub record FailureTexts : Type 0 where
  pub line : List ℕ
  pub status : ℕ
  pub on_input : Bool

abbrev pub failure_texts : List ℕ → ℕ → Bool → FailureTexts
failure_texts line status on_input = record { line = line; status = status; on_input = on_input }

abbrev pub texts_of_failure : Failure → FailureTexts
texts_of_failure failures.CannotOpen = failure_texts (codes "cannot open\n") 3 true
texts_of_failure failures.NoSuchFile = failure_texts (codes "cannot open: no such file\n") 3 true
texts_of_failure failures.PermissionDenied =
    failure_texts (codes "cannot open: permission denied\n") 3 true
texts_of_failure failures.IsFolder = failure_texts (codes "read failed: it is a folder\n") 3 true
texts_of_failure failures.ReadFailed = failure_texts (codes "read failed\n") 3 true
texts_of_failure failures.DeckTooLong = failure_texts (codes "deck too long\n") 2 true
texts_of_failure failures.ImageTooLong = failure_texts (codes "image too long\n") 2 true
texts_of_failure failures.ImagePastStorage = failure_texts (codes "image past storage\n") 4 true
texts_of_failure failures.TooManyPlaces = failure_texts (codes "too many places\n") 2 true
texts_of_failure failures.NoJobWillDo = failure_texts (codes "no job will do\n") 1 true
texts_of_failure failures.WriteFailed = failure_texts (codes "write failed\n") 3 false
texts_of_failure failures.OutOfMemory = failure_texts (codes "out of memory\n") 3 true
texts_of_failure failures.NotCcw = failure_texts (codes "not a CCW\n") 4 false
texts_of_failure failures.NoSuchWord =
    failure_texts (codes "no such word; chanv explain lists all words\n") 4 true
