use Rattle.chan_needs.proofs.Names.{ap, AreExactly, IsFetchedFrom, IsGuarded, IsStoredInto, map, pair, subst, sym}
use Rattle.chan_walk.specs.Guard.{GuardAreas, Guards}
use Rattle.chan_walk.proofs.Algorithms.Listing.{first_is_verdict}
use Rattle.chan_needs.proofs.Needed.{are_needs, survey_looks}
use Rattle.chan_needs.proofs.needs.needs_from.Goals as goal

pub returns : goal.returns
returns c j one =
    let k = c.args.job.now in
    let looks = c.looks-looks.result.now in
    let are = survey_looks k c.args.survey.now looks c.requires.survey c.requires.yes first_is_verdict c.looks-looks.ensures in
    are_needs j k looks _ c.in_ok-sought.sought one are
    (record {
      storage_len = c.len.ensures.value;
      mask = c.needed_mask.ensures k are;
      sought = c.in_ok-sought.ensures.cylinders k are;
      runs = ap (map pair) c.in_ok-runs.ensures;
      fetch = subst (AreExactly (IsFetchedFrom k)) (sym c.in_ok-into_areas.ensures.areas) (c.in_ok-data_moved.ensures k are.looks are.reached);
      store = subst (AreExactly (IsStoredInto k)) (sym c.in_ok-into_areas-2.ensures.areas) (c.in_ok-data_moved-2.ensures k are.looks are.reached);
      keep = subst (AreExactly (IsGuarded k)) (sym c.in_ok-into_areas-3.ensures.areas)
          (c.in_ok-guarded_areas.ensures k (subst (λ (g : GuardAreas). Guards k g) (sym c.guard.ensures) c.requires.survey.guard));
    })
