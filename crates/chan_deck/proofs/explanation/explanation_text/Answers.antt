use Rattle.std.proofs.Common.{refl, string_bytes, sym}
use Rattle.std.proofs.lemmas.List.{append-nil}
use Rattle.chan_deck.proofs.explanation.explanation_text.Goals as goal

pub returns-then-offences-le1 : goal.returns-then-offences-le1
returns-then-offences-le1 c =
    let text = string_bytes c.in_ok-text.text in
    (text, _, rw c.verdict.ensures at c.in_ok-text.ensures, λ few. refl, sym (append-nil text))
