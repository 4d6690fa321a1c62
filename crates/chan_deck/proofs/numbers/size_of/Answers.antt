use Rattle.chan_deck.proofs.Names.{ap, arith, bytes_high_first, List, refl, ℕ, ◌%◌, ◌/◌, ◌∙◌, ◌∷◌}
use Rattle.chan_deck.proofs.ByteNumbers.{size_bytes, bytes_four}
use Rattle.chan_deck.proofs.FieldLemmas.{on_none}
use Rattle.chan_deck.proofs.UpperDigits.{bytes_at, with_zero}
use Rattle.chan_deck.proofs.numbers.size_of.Goals as goal

pub returns : goal.returns
returns c =
    let read = c.in_ok-bytes.ensures in
    size_bytes c.in_ok-bytes.bytes c.args.digits.now c.from_be_bytes.result read.0 read.1 c.from_be_bytes.ensures read.2

pub returns-in_err-bytes : goal.returns-in_err-bytes
returns-in_err-bytes c = on_none _ _ _ c.from_residual.ensures (λ n lt same.
    c.in_err-bytes.ensures (bytes_high_first 4 n) refl (bytes_at (bytes_high_first 4 n) (bytes_four n))
    (ap (λ (t : List ℕ). 48 ∷ t) same ∙ with_zero (n / 16777216 % 256) (bytes_high_first 3 n) (omega arith)))
