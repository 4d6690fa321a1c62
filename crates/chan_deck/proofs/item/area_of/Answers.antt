use Rattle.chan_deck.proofs.Names.{address_digits, ap, arith, bytes_high_first, drop, encode_upper, length, length-drop, refl, sym, take_all, ◌++◌, ◌∙◌, ◌∷◌, ◌≡◌}
use Rattle.byteorder.specs.Endian.{big_number}
use Rattle.chan_deck.proofs.ByteNumbers.{address_bytes, bytes_three}
use Rattle.chan_deck.proofs.FieldLemmas.{address_and, address_first, on_none, same_behind, length-address_digits}
use Rattle.chan_deck.proofs.UpperDigits.{bytes_at}
use Rattle.chan_deck.proofs.item.area_of.Goals as goal

pub returns-in_err-start : goal.returns-in_err-start
returns-in_err-start c = on_none _ _ _ c.from_residual.ensures (λ a form same.
    c.in_err-start.ensures (address_digits a.start) (address_digits a.len) (length-address_digits a.start) same)

pub returns-in_err-bytes : goal.returns-in_err-bytes
returns-in_err-bytes c = on_none _ _ _ c.from_residual-in_err-bytes.ensures (λ a form same.
    let found = rw (c.in_ok-start.start-is, c.in_ok-start.len-is) at c.in_ok-start.ensures in
    let width = found.0 ∙ sym (length-address_digits a.start) in
    let parts = same_behind c.args.word.now _ _ (address_digits a.start) (address_digits a.len) width (sym found.1 ∙ same) in
    c.in_err-bytes.ensures (bytes_high_first 3 a.start ++ bytes_high_first 3 a.len) refl
    (bytes_at (bytes_high_first 3 a.start ++ bytes_high_first 3 a.len) (omega arith, (omega arith, (omega arith, bytes_three a.len))))
    (rw (parts.0, parts.1) (address_and a.start (bytes_high_first 3 a.len))))

pub returns : goal.returns
returns c =
    let found = rw (c.in_ok-start.start-is, c.in_ok-start.len-is) at c.in_ok-start.ensures in
    let read = c.in_ok-bytes.ensures in
    let bytes = c.in_ok-bytes.bytes in
    let first = address_first _ _ bytes c.read_u24.result found.0 read.2 read.1 (omega (arith, c.read_u24.ensures)) in
    let len : length (drop 3 bytes) ≡ 3 = omega (arith, length-drop 3 bytes, read.0) in
    let number = c.read_u24-2.ensures ∙ ap (λ t. big_number 3 t) (take_all 3 (drop 3 bytes) (omega (arith, len))) in
    let last = address_bytes (drop 3 bytes) c.read_u24-2.result len first.3 (omega (arith, number)) in (
      (first.0, last.0),
      found.1 ∙ ap (λ t. c.args.word.now ++ (t ++ 32 ∷ c.in_ok-start.len.now)) first.1
          ∙ ap (λ t. c.args.word.now ++ (address_digits c.read_u24.result ++ 32 ∷ t)) (first.2 ∙ ap encode_upper (sym last.1)),
    )
