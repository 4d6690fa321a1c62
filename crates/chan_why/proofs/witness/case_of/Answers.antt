use Rattle.chan_why.proofs.Names.{get_or, HasLikeOffence, IsFirstWhere, List, places_of_looks, Seen, subst, ◌≡◌}
use Rattle.chan_why.proofs.Explaining.{case_there, look_there, offending_there, some_found}
use Rattle.chan_why.proofs.Indexing.{like_found}
use Rattle.chan_why.proofs.witness.case_of.Goals as goal

pub unwrap-at-requires : goal.unwrap-at-requires
unwrap-at-requires c =
    let s = c.args.survey.now in
    let is = c.requires.listed.1 in
    let first = like_found s.looks s.offences c.args.offence c.args.finder.now.offenders c.offender.result c.requires.finds.offenders c.offender.ensures in
    some_found c.requires.listed.0 s.looks s.found_from is.found s.offences is.offences c.args.offence c.requires.listed.2 c.offender.result first

pub evidence_at-requires-clause-offends : goal.evidence_at-requires-clause-offends
evidence_at-requires-clause-offends c =
    let j = c.requires.listed.0 in
    let is = c.requires.listed.1 in
    let s = c.args.survey.now in
    let o = c.args.offence in
    let like = like_found s.looks s.offences o c.args.finder.now.offenders c.offender.result c.requires.finds.offenders c.offender.ensures in
    let first = subst (IsFirstWhere (HasLikeOffence s.offences o) (places_of_looks s.looks)) c.unwrap-at.ensures like in
    let l = c.index-looks-at.result in
    let seen = subst (λ (ls : List Seen). l ≡ get_or ls c.unwrap-at.result l) c.looks-looks.ensures c.index-looks-at.is in (
      j,
      is,
      look_there j s is o c.requires.listed.2 c.unwrap-at.result first l seen,
      offending_there j s is o c.requires.listed.2 c.unwrap-at.result first l seen,
    )

pub returns-clause-case : goal.returns-clause-case
returns-clause-case c j is =
    let s = c.args.survey.now in
    let o = c.args.offence in
    let like = like_found s.looks s.offences o c.args.finder.now.offenders c.offender.result c.requires.finds.offenders c.offender.ensures in
    let first = subst (IsFirstWhere (HasLikeOffence s.offences o) (places_of_looks s.looks)) c.unwrap-at.ensures like in
    let l = c.index-looks-at.result in
    let seen = subst (λ (ls : List Seen). l ≡ get_or ls c.unwrap-at.result l) c.looks-looks.ensures c.index-looks-at.is in
    let listed = c.requires.listed.2 in
    case_there j s is o listed c.unwrap-at.result first l seen c.evidence_at.result
    (c.evidence_at.ensures j is (look_there j s is o listed c.unwrap-at.result first l seen) (offending_there j s is o listed c.unwrap-at.result first l seen))
