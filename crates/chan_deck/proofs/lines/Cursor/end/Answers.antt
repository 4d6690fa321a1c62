use Rattle.chan_deck.proofs.Names.{sym, ◌∙◌}
use Rattle.std.proofs.lemmas.Bool.{MatchBool-at_false, MatchBool-at_true}
use Rattle.chan_deck.proofs.RefusalLemmas.{ends}
use Rattle.chan_deck.proofs.lines.Cursor.end.Goals as goal

pub returns-then-is_empty : goal.returns-then-is_empty
returns-then-is_empty c = λ t d st. MatchBool-at_true _ _ (sym c.is_empty.ensures ∙ c.if-is_empty.true) (ends t d _ c.args.self.now.rest.now st)

pub returns : goal.returns
returns c = rw c.refused_next.ensures (λ t d st. MatchBool-at_false _ _ (sym c.is_empty.ensures ∙ c.if-is_empty.false) (ends t d _ c.args.self.now.rest.now st))
