use Rattle.chan_deck.proofs.Names.{ap, drop, drop_at, sym, ◌++◌, ◌∙◌, ◌≡◌}
use Rattle.chan_deck.proofs.FieldLemmas.{cancel, on_none}
use Rattle.chan_deck.proofs.item.field.Goals as goal

pub returns-in_err-rest : goal.returns-in_err-rest
returns-in_err-rest c = on_none _ _ _ c.from_residual-in_err-rest.ensures (λ first last len e.
    let fields = cancel c.args.word.now c.in_ok-fields.fields.now _ (sym c.in_ok-fields.ensures ∙ e) in
    let rest : c.split_at.result.1.now ≡ c.args.mark.now ++ last =
    c.split_at.ensures.back ∙ ap (λ t. drop c.args.width t) fields ∙ drop_at first (c.args.mark.now ++ last) c.args.width len in
    c.in_err-rest.ensures last rest)
