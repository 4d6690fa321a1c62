use Rattle.chan_why.proofs.Names.{ap, Area, get_or, GuardAreas, Guards, IsArgumentByteOf, IsByteIn, IsFirstWhere, IsLeastOrNone, List, look_of, Place, places_of_looks, refl, Seen, subst, sym, whole_of, ◌∙◌, ◌≡◌}
use Rattle.chan_why.proofs.Changing.{first_within, found_least, one_argument, one_taker, taken_at, taken_whole}
use Rattle.chan_why.proofs.Indexing.{taker_found}
use Rattle.chan_why.proofs.offence_evidence.changed_argument.Goals as goal

pub unwrap-byte-requires : goal.unwrap-byte-requires
unwrap-byte-requires c =
    let j = c.requires.change.0 in
    let guards = subst (λ (g : GuardAreas). Guards j g) (sym c.guard.ensures) c.requires.change.1.guard in
    let found = subst (λ (xs : List Area). IsLeastOrNone (λ b. IsByteIn xs c.args.range.start c.args.range.len b) c.first_in.result)
    c.arguments.ensures c.first_in.ensures in
    one_argument j c.guard.result.now.arguments guards.arguments c.args.range c.first_in.result found c.requires.change.3

pub unwrap-requires : goal.unwrap-requires
unwrap-requires c =
    let j = c.requires.change.0 in
    let s = c.requires.change.1 in
    let guards = subst (λ (g : GuardAreas). Guards j g) (sym c.guard.ensures) s.guard in
    let least = found_least j c.guard.result.now guards c.arguments.result.now c.arguments.ensures
    c.args.range c.first_in.result c.unwrap-byte.result c.unwrap-byte.ensures c.first_in.ensures in
    one_taker j c.args.survey.now.looks c.args.survey.now.found_from s.found c.unwrap-byte.result c.taker.result least.0.argument
    (taker_found j c.args.survey.now.looks c.unwrap-byte.result c.args.finder.now.takers c.taker.result s.found.looks c.requires.takers c.taker.ensures)

pub returns : goal.returns
returns c j s clear =
    let ls = c.args.survey.now.looks in
    let guards = subst (λ (g : GuardAreas). Guards j g) (sym c.guard.ensures) s.guard in
    let least = found_least j c.guard.result.now guards c.arguments.result.now c.arguments.ensures
    c.args.range c.first_in.result c.unwrap-byte.result c.unwrap-byte.ensures c.first_in.ensures in
    let at = taker_found j ls c.unwrap-byte.result c.args.finder.now.takers c.taker.result s.found.looks c.requires.takers c.taker.ensures in
    let first = subst (IsFirstWhere (λ q. IsArgumentByteOf j q c.unwrap-byte.result) (places_of_looks ls)) c.unwrap.ensures at in
    let within = first_within (λ q. IsArgumentByteOf j q c.unwrap-byte.result) ls c.unwrap.result first in
    let l = c.index-looks-unwrap.result in
    let there : l ≡ get_or ls c.unwrap.result l = subst (λ (xs : List Seen). l ≡ get_or xs c.unwrap.result l) c.looks.ensures c.index-looks-unwrap.is in
    let look = look_of j ls c.unwrap.result l s.found.looks within there in
    let address = ap (λ (q : Place). q.address) c.place.ensures in (
      c.unwrap-byte.result,
      c.place.result.address,
      c.whole.result,
      refl,
      least,
      taken_at j ls c.args.survey.now.found_from s.found c.unwrap-byte.result c.unwrap.result c.place.result.address c.whole.result l first within there address
          (taken_whole j l look c.unwrap-byte.result c.whole.result (c.whole.ensures ∙ ap whole_of c.operand.ensures)),
    )
