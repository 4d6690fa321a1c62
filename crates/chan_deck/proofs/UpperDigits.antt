-- Upper-case hexadecimal digits: how many there are, and when the first is a zero.
use Rattle.chan_deck.proofs.Names.{[], AllByRecursion, ap, arith, drop, encode_upper, encode_with, IsByte, IsBytes, length, List, not, refl, slice_index, suc, sym, upper_digits, zero, ℕ, ◌*◌, ◌/◌, ◌<◌, ◌==◌, ◌∷◌, ◌≡◌}
use Rattle.hex.proofs.HexLemmas.{length-encode_with}
use Rattle.ccw_core.proofs.UpperDigits.{passes}

-- a list of bytes has a byte at each place
pub bytes_at : (bytes : List ℕ) → AllByRecursion IsByte bytes → IsBytes bytes
bytes_at [] h i = omega arith
bytes_at (b ∷ bytes) h zero = h.0
bytes_at (b ∷ bytes) h (suc i) = bytes_at bytes h.1 i

pub length-encode_upper : (bytes : List ℕ) → length (encode_upper bytes) ≡ 2 * length bytes
length-encode_upper bytes = length-encode_with upper_digits bytes

-- ---- the first digit of four bytes

zero_digit : (k : ℕ) → slice_index upper_digits k ≡ 48 → k ≡ 0
zero_digit zero e = refl
zero_digit (suc k) e = absurd (cc (passes (λ c. not (c == 48)) (drop 1 upper_digits) refl refl k, ap (λ c. c == 48) e))

-- a first digit of zero tells of a first byte below sixteen
pub leading_zero : (b : ℕ) (rest s : List ℕ) → 48 ∷ s ≡ encode_upper (b ∷ rest) → b < 16
unfolding encode_with
leading_zero b rest s e =
    let zeroed = zero_digit (b / 16) (sym (ap (λ t. slice_index t 0) e)) in
    omega (arith, zeroed)

-- and the other way round
pub with_zero : (b : ℕ) (rest : List ℕ) → b < 16 → 48 ∷ drop 1 (encode_upper (b ∷ rest)) ≡ encode_upper (b ∷ rest)
unfolding encode_with
with_zero b rest lt =
    let zeroed : b / 16 ≡ 0 = omega arith in
    rw zeroed refl
