use Rattle.chan_deck.proofs.Names.{address_digits, ap, arith, bytes_high_first, drop, encode_upper, length, length-drop, rules, sym, take_all, ◌++◌, ◌∙◌, ◌∷◌, ◌≡◌}
use Rattle.std.specs.Prelude.{codes}
use Rattle.byteorder.specs.Endian.{big_number}
use Rattle.std.proofs.lemmas.Nat.{be_bytes_8}
use Rattle.chan_deck.proofs.FieldLemmas.{address_and, address_first, on_none, put_length, same_behind, length-address_digits}
use Rattle.chan_deck.proofs.UpperDigits.{bytes_at}
use Rattle.chan_deck.proofs.item.put_of.Goals as goal

pub returns-then-line-ne-PUT_LINE : goal.returns-then-line-ne-PUT_LINE
returns-then-line-ne-PUT_LINE c = λ a word says. c.if-line-ne-PUT_LINE.true (ap length says.1 ∙ put_length a word says.0.1)

pub returns-in_err-address : goal.returns-in_err-address
returns-in_err-address c = on_none _ _ _ c.from_residual.ensures (λ a word says.
    c.in_err-address.ensures (address_digits a) (encode_upper word) (length-address_digits a) says.1)

pub returns-in_err-bytes : goal.returns-in_err-bytes
returns-in_err-bytes c = on_none _ _ _ c.from_residual-in_err-bytes.ensures (λ a word says.
    let found = rw (c.in_ok-address.address-is, c.in_ok-address.word-is) at c.in_ok-address.ensures in
    let same = same_behind (codes "put ") _ _ (address_digits a) (encode_upper word) (found.0 ∙ sym (length-address_digits a)) (sym found.1 ∙ says.1) in
    c.in_err-bytes.ensures (bytes_high_first 3 a ++ word) (omega (arith, says.0.1.0))
    (bytes_at (bytes_high_first 3 a ++ word) (omega arith, (omega arith, (omega arith, says.0.1.1))))
    (rw (same.0, same.1) (address_and a word)))

pub returns : goal.returns
returns c =
    let found = rw (c.in_ok-address.address-is, c.in_ok-address.word-is) at c.in_ok-address.ensures in
    let read = c.in_ok-bytes.ensures in
    let bytes = c.in_ok-bytes.bytes in
    let n = c.read_u64.result in
    let first = address_first _ _ bytes c.read_u24.result found.0 read.2 read.1 (omega (arith, c.read_u24.ensures)) in
    let len : length (drop 3 bytes) ≡ 8 = omega (arith, length-drop 3 bytes, read.0) in
    let number = c.read_u64.ensures ∙ ap (λ t. big_number 8 t) (take_all 8 (drop 3 bytes) (omega (arith, len))) in
    let word = be_bytes_8 (drop 3 bytes) n len first.3 (omega (arith, number)) in (
      (first.0, search rules),
      found.1 ∙ ap (λ t. codes "put " ++ (t ++ 32 ∷ c.in_ok-address.word.now)) first.1
          ∙ ap (λ t. codes "put " ++ (address_digits c.read_u24.result ++ 32 ∷ t)) (first.2 ∙ ap encode_upper (sym word)),
    )
