-- Addresses of six, seven and eight digits: the last digits of four bytes.
use Rattle.chan_deck.proofs.Names.{address_text, drop, encode_upper, encode_with, le-ltb, List, lt-ltb, refl, STORAGE_LIMIT, take, to_be_bytes, w32, arith, ℕ, ◌<◌, ◌^◌, ◌≡◌, ◌≤◌}
use Rattle.std.proofs.Common.{IsAscii}
use Rattle.std.proofs.lemmas.Str.{IsAscii-drop, IsAscii-take}

-- the eight digits of a number
abbrev pub eight_digits : ℕ → List ℕ
eight_digits n = encode_upper (to_be_bytes w32 n)

pub six_last : (n : ℕ) → n < STORAGE_LIMIT → take 6 (drop 2 (eight_digits n)) ≡ address_text n
unfolding encode_with
six_last n lt = rw (lt-ltb n STORAGE_LIMIT lt) refl

pub seven_last : (n : ℕ) → STORAGE_LIMIT ≤ n → n < 2 ^ 28 → take 7 (drop 1 (eight_digits n)) ≡ address_text n
unfolding encode_with
seven_last n low high = rw (le-ltb n STORAGE_LIMIT low, lt-ltb n (2 ^ 28) high) refl

pub all_eight : (n : ℕ) → 2 ^ 28 ≤ n → eight_digits n ≡ address_text n
all_eight n low =
    let above : STORAGE_LIMIT ≤ n = omega (arith, low) in
    rw (le-ltb n STORAGE_LIMIT above, le-ltb n (2 ^ 28) low) refl

-- a part of characters of ASCII
pub ascii_part : (k n : ℕ) (xs : List ℕ) → IsAscii xs → IsAscii (take k (drop n xs))
ascii_part k n xs h = IsAscii-take (drop n xs) k (IsAscii-drop xs n h)
