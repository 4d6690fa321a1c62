use Rattle.std.proofs.Common.{◌++◌, ◌∙◌, ap}
use Rattle.std.proofs.lemmas.Result.{IfOk-weaker}
use Rattle.chan_deck.proofs.ListingLemmas.{listing_seen}
use Rattle.chan_walk.specs.Look.{places_of_looks}
use Rattle.chan_run.specs.Name.{heading_of}
use Rattle.chan_run.proofs.answer.list_output.Goals as goal

pub returns : goal.returns
returns c =
    let j = c.args.job.now in
    let v = c.verdict-verdict.result in
    let ls = c.in_ok-looks.looks.items in
    let are = c.in_ok-looks.ensures.places j c.requires in
    let looks = c.in_ok-looks.ensures.looks j c.requires in
    let text = c.as_slice-2.ensures.value ∙ rw c.as_slice.ensures.value at c.in_ok-listing-2.ensures in
    rw (c.if-wide.false, ← c.verdict-verdict.ensures)
    (IfOk-weaker c.text_under-2.result _ _ (λ headed is.
    (places_of_looks ls, are, is ∙ ap (λ t. heading_of c.args.naming ++ t) (text ∙ listing_seen j v ls looks)))
    c.text_under-2.ensures)
