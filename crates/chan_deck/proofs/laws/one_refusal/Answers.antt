use Rattle.chan_deck.proofs.RefusalLemmas.{one_refusal}
use Rattle.chan_deck.proofs.laws.one_refusal.Goals as goal

pub returns : goal.returns
returns c = record {
  line = λ t m n b d hm hn. (one_refusal t m n b d hm hn).0;
  cause = λ t m n b d hm hn. (one_refusal t m n b d hm hn).1;
  none = λ t n b d h spells. h.none d spells;
}
