-- The bytes in the areas so far are copied.
use Rattle.chanv_c.proofs.Copies.{AreCopied}
use Rattle.chanv_c.proofs.take_in.copy_areas.Given as goal

abbrev pub invariant-loop-area : goal.invariant-loop-area
invariant-loop-area l = AreCopied l.job.storage.now l.areas l.area-index l.initial.copy l.copy
