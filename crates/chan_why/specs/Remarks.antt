-- What a program may do, whatever its verdict: where it first does so.
use Rattle.chan_areas.specs.Merged.{IsLeastOrNone}
use Rattle.chan_walk.specs.declared.job.Job.{Job}
use Rattle.chan_why.specs.declared.remarks.Remarks.{Remarks}
use Rattle.chan_why.specs.Hang.{IsFirstPlace, MayHang}
use Rattle.chan_why.specs.Notes.{IsAddressOf, ends_there, interrupts}

-- the first place at which the program may hang; the least address of a CCW that asks for an
-- interruption; and the least address of one at which it ends though chain data is on
pub record AreRemarks (j : Job) (r : Remarks) : Type 0 where
  pub hangs : IsFirstPlace (MayHang j) r.hangs
  pub interrupts : IsLeastOrNone (IsAddressOf interrupts j) r.interrupts
  pub ends_chaining : IsLeastOrNone (IsAddressOf ends_there j) r.ends_chaining
