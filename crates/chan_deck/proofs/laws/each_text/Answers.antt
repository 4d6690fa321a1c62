use Rattle.chan_deck.proofs.EachText.{each_text}
use Rattle.chan_deck.proofs.laws.each_text.Goals as goal

pub returns : goal.returns
returns c = λ t. each_text t
