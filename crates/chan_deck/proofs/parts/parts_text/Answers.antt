use Rattle.chan_deck.proofs.Names.{ap, HasLimit, value_of_parts, List, replicate, spelling, storage_with, subst, Version, ℕ, ◌*◌, ◌++◌, ◌/◌, ◌∙◌, ◌≡◌}
use Rattle.chan_deck.proofs.PartLemmas.{from_facts, parts_deck}
use Rattle.chan_deck.proofs.parts.parts_text.Goals as goal

pub returns : goal.returns
returns c =
    let p = c.args.parts.now in
    let version = c.version_of.result in
    let storage : replicate (8 * (p.at / 8)) 0 ++ c.deref.result.now ≡ storage_with p.at p.image.now =
    ap (λ (t : List ℕ). replicate (8 * (p.at / 8)) 0 ++ t) c.deref.ensures.value ∙ c.in_ok-bytes.ensures.bytes in
    from_facts c.text_of.result c.text_of.ensures.text c.text_of.ensures.limit c.text_of.ensures.mask c.text_of.ensures.extents
    (λ text spelled limited masked cylinders. (
      parts_deck p c.requires.size c.requires.addresses (subst (λ (v : Version). HasLimit v) c.version_of.ensures limited)
          masked cylinders c.in_ok-bytes.ensures.image,
      spelled ∙ ap (λ (s : List ℕ). spelling (record (value_of_parts p) { version = version; storage = s })) storage
          ∙ ap (λ (v : Version). spelling (record (value_of_parts p) { version = v })) c.version_of.ensures,
    ))
