use Rattle.chan_why.proofs.Names.{ap, arith, Place, ◌∙◌, ◌≡◌}
use Rattle.chan_why.proofs.Finding.{none_more}
use Rattle.chan_why.proofs.second_path.first_at.Goals as goal

pub loop-at-preserved : goal.loop-at-preserved
loop-at-preserved c =
    none_more (λ q. q.address ≡ c.args.address) c.args.looks.now c.loop-at.at c.index-looks-at.result (omega arith) c.index-looks-at.is
    (λ e. c.if-place-address.false (ap (λ (p : Place). p.address) c.place.ensures ∙ e)) c.loop-at.invariant
