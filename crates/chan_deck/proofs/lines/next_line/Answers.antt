use Rattle.chan_deck.proofs.Names.{[], ap, drop, drop-drop, None, Option, Some, split, sym, ◌+◌, ◌∙◌, ◌∷◌, ◌≡◌}
use Rattle.std.specs.Prelude.{IfNone}
use Rattle.chan_deck.proofs.LineFeeds.{some_line, no_line}
use Rattle.chan_deck.proofs.lines.next_line.Goals as goal

if_none : {A : Type 0} (r : Option A) (P : Type 0) → P → IfNone r P
if_none None P h = h
if_none (Some x) P h = tt

pub returns-in_err-end-clause-none : goal.returns-in_err-end-clause-none
returns-in_err-end-clause-none c =
    if_none c.from_residual.result (split c.args.text.now ≡ ([], c.args.text.now)) (no_line c.args.text.now (sym c.in_err-end.ensures.place))

pub returns-clause-some : goal.returns-clause-some
returns-clause-some c =
    let text = c.args.text.now in
    let end = c.in_ok-end.end in
    let behind : c.split_at-2.result.1.now ≡ drop (end + 1) text =
    c.split_at-2.ensures.back ∙ ap (λ t. drop 1 t) c.split_at.ensures.back ∙ drop-drop 1 end text in
    let others = split (drop (end + 1) text) in
    some_line text end c.in_ok-end.ensures.place ∙ ap (λ x. (x ∷ others.0, others.1)) (sym c.split_at.ensures.front)
    ∙ ap (λ t. (c.split_at.result.0.now ∷ (split t).0, (split t).1)) (sym behind)
