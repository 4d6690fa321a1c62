use Rattle.chan_walk.proofs.Names.{AreLooks, places_of_looks, ◌++◌, ◌≡◌}
use Rattle.chan_walk.proofs.guard.Guard.new.Given as goal

abbrev pub invariant-loop-place : goal.invariant-loop-place
invariant-loop-place l = record { looks : AreLooks l.job l.looks.items; places : places_of_looks l.looks.items ++ l.place-iterator ≡ l.explored }
