use Rattle.std.proofs.Common.{◌≡◌, List, false, take, ℕ}
use Rattle.std.specs.Io.KnownBytes.{Appends}
use Rattle.chan_run.specs.Find.{AreLinesAt}
use Rattle.chan_run.specs.declared.image_programs.TheConstants.{PLACES_JUDGED}
use Rattle.chan_run.proofs.image_programs.write_programs.Given as goal

abbrev pub invariant-loop-start : goal.invariant-loop-start
invariant-loop-start g l =
    (l.to.failed ≡ false)
    × ((text : List ℕ) × AreLinesAt l.options l.image PLACES_JUDGED (take l.start-index l.start-items) text l.left
    × Appends (g.W.Write.contents l.fn.to.device) (g.W.Write.contents l.to.device) text)
