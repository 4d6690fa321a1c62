use Rattle.chan_why.proofs.Names.{Bool, IsFirstPlace, IsLeftUnmarked, length, List, places_of_looks, reached_looks, subst}
use Rattle.chan_why.proofs.Retracing.{first_hang}
use Rattle.chan_why.proofs.hang.hang_from.Goals as goal

pub returns : goal.returns
returns c j s =
    let ls = c.looks-looks.result.now in
    let seen = reached_looks j c.args.survey.now.looks ls c.args.survey.now.found_from s.found c.looks-looks.ensures in
    first_hang j ls c.in_ok-marks.marks.items c.first_left.result seen.1 (c.in_ok-marks.ensures.each j seen.0 seen.1)
    (subst (λ (m : List Bool). IsFirstPlace (IsLeftUnmarked (places_of_looks ls) m (length ls)) c.first_left.result)
    c.as_slice.ensures.value c.first_left.ensures)
