use Rattle.chan_deck.proofs.Names.{ap, arith, length, zeros, ◌%◌, ◌*◌, ◌++◌, ◌/◌, ◌∙◌}
use Rattle.std.proofs.lemmas.Result.{IfOk-weaker}
use Rattle.chan_deck.proofs.PartLemmas.{all_bytes, doublewords_are, length_storage}
use Rattle.chan_deck.proofs.parts.doublewords.Goals as goal

pub returns-clause-bytes : goal.returns-clause-bytes
returns-clause-bytes c =
    IfOk-weaker c.place_image.result _ _ (λ bytes is.
    ap (λ t. zeros (8 * (c.args.at / 8)) ++ t) is ∙ doublewords_are c.args.at c.args.image.now) c.place_image.ensures.bytes

pub returns-clause-size : goal.returns-clause-size
returns-clause-size c =
    IfOk-weaker c.place_image.result _ _ (λ bytes is.
    omega (arith, ap length is ∙ length_storage (c.args.at % 8) c.args.image.now, c.requires)) c.place_image.ensures.bytes

pub returns-clause-image : goal.returns-clause-image
returns-clause-image c =
    IfOk-weaker c.place_image.result _ _ (λ bytes is. all_bytes c.args.image.now (λ i. omega (arith, c.type_inv.image i))) c.place_image.ensures.bytes
