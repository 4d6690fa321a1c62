use Rattle.std.proofs.Common.{ap, append_assoc, codes, subst, sym, List, ℕ, ◌++◌, ◌∙◌}
use Rattle.chan_run.specs.Texts.{WriterGot}
use Rattle.chan_run.proofs.outcome.write_unknown.Goals as goal

pub returns-clause-said : goal.returns-clause-said
returns-clause-said g c =
    let rest : List ℕ = codes "no such word; the nearest is "
    ++ (c.args.nearest.now ++ codes ", and chanv explain lists all words\n")
    in subst (λ line. WriterGot line (g.W.Write.contents c.args.to.now.device)
    (g.W.Write.contents c.write_texts.new.to.device) c.write_texts.new.to.failed)
    (ap (λ t. codes "chanv: " ++ t)
    (sym (append_assoc c.named.result.0.now c.named.result.1.now rest)
    ∙ ap (λ t. t ++ rest) c.named.ensures))
    c.write_texts.ensures.said
