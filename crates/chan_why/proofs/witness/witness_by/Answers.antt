use Rattle.chan_why.proofs.Names.{[], ◌∷◌}
use Rattle.chan_walk.proofs.Machine.Alarm.{each_path_shows}
use Rattle.chan_why.proofs.Explaining.{stored_told, witness}
use Rattle.chan_why.proofs.witness.witness_by.Goals as goal

pub case_of-at-requires-clause-listed : goal.case_of-at-requires-clause-listed
case_of-at-requires-clause-listed c = c.requires.listed

pub second_path-requires-clause-shown : goal.second_path-requires-clause-shown
second_path-requires-clause-shown c =
    let shown = (c.case_of-at.ensures.case c.requires.listed.0 c.requires.listed.1).shows in
    (c.requires.listed.0, c.requires.listed.1, (shown.2.0, shown.2.3.1))

pub returns : goal.returns
returns c j s =
    let o = c.args.offence in
    let places = c.in_ok-places.field-0.places.items in
    let case = c.case_of-at.ensures.case j s in
    let path = case.path places (c.in_ok-places.ensures.path j s) in
    record {
      path = path;
      shown = witness j (o ∷ []) places s.proper each_path_shows path;
      evidence = case.evidence places (c.in_ok-places.ensures.path j s);
      stored = stored_told j o.place.address o.reason places c.in_ok-places.field-0.stored_by c.told_over.result
          (c.in_ok-places.ensures.stored j s) c.told_over.ensures.told c.told_over.ensures.other;
      second = c.in_ok-second_path.ensures j s case.shows.2.0 case.shows.2.3.1;
    }
