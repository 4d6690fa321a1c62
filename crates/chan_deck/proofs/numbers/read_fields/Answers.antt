use Rattle.chan_deck.proofs.Names.{ap, arith, length, length-append}
use Rattle.chan_deck.proofs.UpperDigits.{length-encode_upper}
use Rattle.chan_deck.proofs.numbers.read_fields.Goals as goal

pub returns-then-first-second : goal.returns-then-first-second
returns-then-first-second g c = λ bytes len are same.
    c.if-first-second.true (omega (arith, length-append c.args.first.now c.args.second.now, ap length same, length-encode_upper bytes, len, c.requires.twice))
