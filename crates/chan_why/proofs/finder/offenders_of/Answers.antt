use Rattle.chan_why.proofs.Names.{arith, get_or, has_at, IsIndex, IsOfKind, length, places_of_looks, refl, slice_get-get_or, subst, ◌+◌, ◌≡◌}
use Rattle.chan_walk.specs.PlaceTable.{IsIndexOf}
use Rattle.chan_why.proofs.Indexing.{kind_more, note_more, some_index}
use Rattle.chan_why.proofs.finder.offenders_of.Goals as goal

pub unwrap-at-requires : goal.unwrap-at-requires
unwrap-at-requires c =
    let os = c.args.offences.now in
    let o = get_or os c.loop-offence.offence-index _ in
    let there = slice_get-get_or os c.loop-offence.offence-index _ c.loop-offence-test.true in
    some_index (places_of_looks c.args.survey.now.looks) o.place c.index_of.result c.index_of.ensures
    (c.requires.seen o (has_at os c.loop-offence.offence-index o there))

pub loop-offence-preserved : goal.loop-offence-preserved
loop-offence-preserved c =
    let ls = c.args.survey.now.looks in
    let os = c.args.offences.now in
    let i = c.loop-offence.offence-index in
    let o = get_or os i _ in
    let at = subst (IsIndexOf (places_of_looks ls) o.place) c.unwrap-at.ensures c.index_of.ensures in
    note_more (IsOfKind ls os i) (IsOfKind ls os (i + 1)) c.kind_number.result c.unwrap-at.result c.loop-offence.first c.keep_first.new.first
    (kind_more ls c.requires.distinct os i o _ c.loop-offence-test.true refl c.unwrap-at.result at c.kind_number.result c.kind_number.ensures)
    c.loop-offence.invariant c.in_ok-keep_first.ensures

pub returns : goal.returns
returns c =
    let e : c.loop-offence.offence-index ≡ length c.args.offences.now = omega arith in
    subst (λ n. IsIndex (IsOfKind c.args.survey.now.looks c.args.offences.now n) c.loop-offence.first) e c.loop-offence.invariant
