use Rattle.chan_why.proofs.Names.{places_of_looks, ◌≡◌}
use Rattle.chan_why.proofs.Finding.{NoneBefore}
use Rattle.chan_why.proofs.second_path.first_at.Given as goal

abbrev pub invariant-loop-at : goal.invariant-loop-at
invariant-loop-at l = NoneBefore (λ q. q.address ≡ l.address) (places_of_looks l.looks) l.at
