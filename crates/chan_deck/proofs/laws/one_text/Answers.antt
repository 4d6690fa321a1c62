use Rattle.chan_deck.proofs.Names.{sym, ◌∙◌}
use Rattle.chan_deck.proofs.RefusalLemmas.{same_deck}
use Rattle.chan_deck.proofs.laws.one_text.Goals as goal

pub returns : goal.returns
returns c = record { decks = λ t d e hd he. same_deck t d e hd he; texts = λ t u d ht hu. ht.1 ∙ sym hu.1 }
