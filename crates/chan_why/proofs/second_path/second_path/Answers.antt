use Rattle.chan_why.proofs.Names.{IsIndex, IsSecondPathEnd, length, List, None, places_of_looks, reached_looks, Seen, Some, subst, sym, TakesByte}
use Rattle.chan_why.proofs.Changing.{changed_within, none_found, second_found}
use Rattle.chan_why.proofs.second_path.second_path.Goals as goal

pub path_at-requires-clause-within : goal.path_at-requires-clause-within
path_at-requires-clause-within c =
    let j = c.requires.shown.0 in
    let f = c.requires.shown.1.found in
    let looks = (reached_looks j c.args.survey.now.looks c.looks.result.now c.args.survey.now.found_from f c.looks.ensures).0 in
    let takers = subst (λ (ls : List Seen). IsIndex (TakesByte ls (length ls)) c.args.finder.now.takers) (sym c.looks.ensures) c.requires.takers in
    changed_within j c.args.survey.now.looks c.args.survey.now.found_from f c.args.evidence.now c.in-Some.at
    (subst (λ (ls : List Seen). IsSecondPathEnd j c.args.evidence.now (places_of_looks ls) (Some c.in-Some.at))
    c.looks.ensures (c.in-Some.ensures j looks takers))

pub returns-in_ok-places-in-Some : goal.returns-in_ok-places-in-Some
returns-in_ok-places-in-Some c j s p shown =
    let f = s.found in
    let looks = (reached_looks j c.args.survey.now.looks c.looks.result.now c.args.survey.now.found_from f c.looks.ensures).0 in
    let takers = subst (λ (ls : List Seen). IsIndex (TakesByte ls (length ls)) c.args.finder.now.takers) (sym c.looks.ensures) c.requires.takers in
    second_found j c.args.survey.now.looks c.args.survey.now.found_from f c.args.evidence.now c.in-Some.at c.in_ok-places-in-Some.field-0.places.items
    (subst (λ (ls : List Seen). IsSecondPathEnd j c.args.evidence.now (places_of_looks ls) (Some c.in-Some.at))
    c.looks.ensures (c.in-Some.ensures j looks takers))
    (c.in_ok-places-in-Some.ensures.path j s)

pub returns-in-None : goal.returns-in-None
returns-in-None c j s p shown =
    let f = s.found in
    let looks = (reached_looks j c.args.survey.now.looks c.looks.result.now c.args.survey.now.found_from f c.looks.ensures).0 in
    let takers = subst (λ (ls : List Seen). IsIndex (TakesByte ls (length ls)) c.args.finder.now.takers) (sym c.looks.ensures) c.requires.takers in
    none_found j c.args.survey.now.looks c.args.survey.now.found_from f c.args.evidence.now p c.new.result.items shown
    (subst (λ (ls : List Seen). IsSecondPathEnd j c.args.evidence.now (places_of_looks ls) None) c.looks.ensures (c.in-None.ensures j looks takers))
    c.new.ensures.items
