use Rattle.chan_walk.proofs.Names.{subst, sym}
use Rattle.chan_walk.specs.JobSurvey.{IsSurvey}
use Rattle.chan_walk.proofs.Algorithms.Looking.{moved_places}
use Rattle.chan_walk.proofs.Algorithms.Walking.{reached_all}
use Rattle.chan_walk.proofs.job_survey.Survey.into_parts.Goals as goal

pub in_order-requires : goal.in_order-requires
in_order-requires c = (subst (IsSurvey c.requires.0) (sym c.self.view_is) c.requires.1).found.walked.distinct

pub returns-clause-looks : goal.returns-clause-looks
returns-clause-looks c j s l h =
    (subst (IsSurvey j) (sym c.self.view_is) s).found.looks l ((c.in_ok-in_order.ensures.same l).0 h)

pub returns-clause-places : goal.returns-clause-places
returns-clause-places c j s =
    let ls = c.self.inside.looks.items in
    let ms = c.in_ok-in_order.field-0.items in
    let found = (subst (IsSurvey j) (sym c.self.view_is) s).found in
    let reached = reached_all j ls c.self.inside.found_from.items found in
    let is = c.in_ok-in_order.ensures in
    record {
      ordered = is.ordered;
      each = λ p r. moved_places ls ms p (λ l h. (is.same l).1 h) (reached.0 p r);
      only = λ p h. reached.1 p (moved_places ms ls p (λ l k. (is.same l).0 k) h);
    }
