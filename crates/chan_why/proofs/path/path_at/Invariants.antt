use Rattle.chan_why.proofs.Names.{IsLastStore, IsSurvey, Job, length, List, Place, places_of_looks, ◌<◌, ◌∷◌, ◌≡◌}
use Rattle.chan_why.proofs.Backward.{IsWayBack}
use Rattle.chan_why.proofs.path.path_at.Given as goal

abbrev pub invariant-loop-from : goal.invariant-loop-from
invariant-loop-from l = record {
  found : (j : Job) × IsSurvey j l.survey;
  within : l.from < length l.looks;
  back : (j : Job) → IsSurvey j l.survey → IsWayBack j (places_of_looks l.looks) l.at l.from l.places.items;
  stored : (seen : List Place) × (l.places.items ≡ l.end ∷ seen) × ((j : Job) → IsSurvey j l.survey → IsLastStore j l.end.address seen l.stored_by);
}

abbrev pub decreases-loop-from : goal.decreases-loop-from
decreases-loop-from l = l.from
