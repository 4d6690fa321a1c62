use Rattle.chan_deck.proofs.SameLemmas.{same_is, is_same}
use Rattle.chan_deck.proofs.laws.equal_decks.Goals as goal

pub returns : goal.returns
returns c = record { one = same_is; equal = is_same }
