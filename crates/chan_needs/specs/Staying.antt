-- What is known of a program depends on the length of storage and on its kept bytes alone: what was
-- found over a private copy of these bytes is true of each storage that holds them.
use Rattle.std.specs.Prelude.{◌≡◌, List, length, true}
use Rattle.ccw_core.specs.Areas.{lies_in}
use Rattle.ccw_core.specs.Held.{bytes_held}
use Rattle.ccw_core.specs.declared.storage.Storage.{Storage}
use Rattle.chan_walk.specs.declared.job.Job.{Job}
use Rattle.chan_walk.specs.VerdictBytes.{with_storage}
use Rattle.chan_walk.specs.Job.{storage_of}
use Rattle.chan_walk.specs.Runs.{IsSameIn}
use Rattle.chan_needs.specs.declared.start.Start.{Start}
use Rattle.chan_needs.specs.Start.{IsAnswerOf}
use Rattle.chan_needs.specs.declared.layout.Remembered.{Remembered}
use Rattle.chan_needs.specs.Needs.{KeepsProgram}
use Rattle.chan_needs.specs.Remembered.{HoldsKept, IsRemembered, device_number}
use Rattle.chan_needs.specs.Listed.{AreNeeds, Listed}

-- needs are the same over each storage that is as long and the same in each kept byte
abbrev pub NeedsStay : Type 0
NeedsStay = (j k : Job) (n : Listed) → KeepsProgram j k → AreNeeds j n → AreNeeds k n

-- what is remembered is true of each storage that is as long and holds what was kept
abbrev pub HeldStaysTrue : Type 0
HeldStaysTrue =
    (j k : Job) (p : Remembered) → IsRemembered j p → k.start ≡ p.start
    → device_number k.device ≡ p.device → length (storage_of k) ≡ length (storage_of j)
    → HoldsKept k p → IsRemembered k p

-- nothing of storage but its length and the kept bytes matters to the question before a start: over
-- each storage that is the same in these, the answer is the same
abbrev pub AnswerStays : Type 0
AnswerStays =
    (j : Job) (t : Storage) (p : Remembered) (fs : List Remembered) (answer : Start)
    → IsSameIn (λ b. lies_in p.needs.keep.now b ≡ true) (storage_of j) (bytes_held t)
    → IsAnswerOf j p fs answer → IsAnswerOf (with_storage j t) p fs answer
