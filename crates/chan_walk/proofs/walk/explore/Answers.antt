use Rattle.chan_walk.proofs.Names.{IfOk-weaker, MarksAgree, places_of_looks, subst}
use Rattle.chan_walk.proofs.Algorithms.InOrder.{listed_reachable, listed_few}
use Rattle.chan_walk.proofs.walk.explore.Goals as goal

pub returns-clause-ok : goal.returns-clause-ok
returns-clause-ok c =
    let found = c.in_ok-walk.ensures.found in
    let agrees = subst (λ ls. MarksAgree c.in_ok-marks.marks (places_of_looks ls)) c.as_slice.ensures.value c.in_ok-marks.ensures.ok in
    IfOk-weaker c.from_marks.result _ _ (λ places l. listed_reachable c.args.job.now c.args.job.now.limit c.in_ok-marks.marks
    (places_of_looks c.in_ok-walk.walk.looks.items) places found.at l agrees found.walked found.all) c.from_marks.ensures.ok

pub returns-clause-few : goal.returns-clause-few
returns-clause-few c =
    let found = c.in_ok-walk.ensures.found in
    let agrees = subst (λ ls. MarksAgree c.in_ok-marks.marks (places_of_looks ls)) c.as_slice.ensures.value c.in_ok-marks.ensures.ok in
    IfOk-weaker c.from_marks.result _ _ (λ places l. listed_few c.args.job.now c.args.job.now.limit c.in_ok-marks.marks
    (places_of_looks c.in_ok-walk.walk.looks.items) places found.at l agrees found.walked) c.from_marks.ensures.ok
