use Rattle.chan_deck.proofs.Names.{encode_upper, List, subst, sym, ℕ, ◌≡◌}
use Rattle.std.proofs.Common.{IsAscii}
use Rattle.ccw_core.proofs.UpperDigits.{ascii_digits}
use Rattle.chan_deck.proofs.AddressLemmas.{all_eight, ascii_part, seven_last, six_last}
use Rattle.chan_deck.proofs.verdict_line.push_address.Goals as goal

ascii : (digits bytes : List ℕ) → digits ≡ encode_upper bytes → IsAscii digits
ascii digits bytes e = subst IsAscii (sym e) (ascii_digits bytes)

pub add_ascii-requires : goal.add_ascii-requires
add_ascii-requires g c = ascii_part 6 2 _ (ascii _ _ c.number_digits-digits.ensures)

pub add_ascii-requires-then-address : goal.add_ascii-requires-then-address
add_ascii-requires-then-address g c = ascii_part 7 1 _ (ascii _ _ c.number_digits-digits.ensures)

pub add_ascii-requires-else-address : goal.add_ascii-requires-else-address
add_ascii-requires-else-address g c = ascii _ _ c.number_digits-digits.ensures

pub returns-then-address-lt-STORAGE_LIMIT : goal.returns-then-address-lt-STORAGE_LIMIT
returns-then-address-lt-STORAGE_LIMIT g c =
    rw (c.number_digits-digits.ensures, six_last c.args.address c.if-address-lt-STORAGE_LIMIT.true) at c.add_ascii.ensures

pub returns-then-address : goal.returns-then-address
returns-then-address g c =
    rw (c.number_digits-digits.ensures, seven_last c.args.address c.if-address-lt-STORAGE_LIMIT.false c.if-address.true) at c.add_ascii-then-address.ensures

pub returns-else-address : goal.returns-else-address
returns-else-address g c = rw (c.number_digits-digits.ensures, all_eight c.args.address c.if-address.false) at c.add_ascii-else-address.ensures
