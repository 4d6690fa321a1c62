-- The places so far are written, and what is behind them stands as it did.
use Rattle.std.proofs.Common.{◌≡◌, ◌++◌, drop, map, take}
use Rattle.chanv_c.specs.Answers.{place_for_c}
use Rattle.chanv_c.proofs.c_place.write_path.Given as goal

abbrev pub invariant-loop-index : goal.invariant-loop-index
invariant-loop-index l = l.room ≡ map place_for_c (take l.index l.path) ++ drop l.index l.initial.room
