-- Numbers of three, four and eight bytes.
use Rattle.chan_deck.proofs.Names.{[], AllByRecursion, ap, arith, bytes_high_first, drop, encode_upper, from_be_bytes, get_or, IsByte, length, List, refl, size_digits, STORAGE_LIMIT, sym, w32, ℕ, ◌%◌, ◌*◌, ◌+◌, ◌/◌, ◌<◌, ◌^◌, ◌∙◌, ◌∷◌, ◌≡◌}
use Rattle.std.proofs.lemmas.Nat.{be_bytes_4}
use Rattle.chan_deck.proofs.UpperDigits.{bytes_at, leading_zero}

-- an address has the three bytes that it was made of
pub address_bytes : (b : List ℕ) (n : ℕ) → length b ≡ 3 → ((i : ℕ) → get_or b i 0 < 256)
    → n ≡ get_or b 0 0 * 65536 + get_or b 1 0 * 256 + get_or b 2 0
    → (n < STORAGE_LIMIT) × (bytes_high_first 3 n ≡ b)
address_bytes [] n len fits e = absurd (omega arith)
address_bytes (x ∷ []) n len fits e = absurd (omega arith)
address_bytes (x ∷ y ∷ []) n len fits e = absurd (omega arith)
address_bytes (x ∷ y ∷ z ∷ w ∷ b) n len fits e = absurd (omega arith)
address_bytes (x ∷ y ∷ z ∷ []) n len fits e =
    let high : n / 65536 % 256 ≡ x = omega (arith, fits 0, fits 1, fits 2) in
    let middle : n / 256 % 256 ≡ y = omega (arith, fits 0, fits 1, fits 2) in
    let low : n % 256 ≡ z = omega (arith, fits 0, fits 1, fits 2) in
    (omega (arith, fits 0, fits 1, fits 2), rw (high, middle, low) refl)

pub bytes_three : (n : ℕ) → AllByRecursion IsByte (bytes_high_first 3 n)
bytes_three n = (omega arith, (omega arith, (omega arith, tt)))

-- what reading an address takes
pub ruleset address_rules = (address_bytes, bytes_at, bytes_three)

pub bytes_four : (n : ℕ) → AllByRecursion IsByte (bytes_high_first 4 n)
bytes_four n = (omega arith, bytes_three n)

first_small : (b s : List ℕ) → length b ≡ 4 → 48 ∷ s ≡ encode_upper b → get_or b 0 0 < 16
first_small [] s len e = absurd (omega arith)
first_small (x ∷ rest) s len e = leading_zero x rest s e

-- a number of seven digits has the four bytes that it was made of
pub size_bytes : (b s : List ℕ) (n : ℕ) → length b ≡ 4 → ((i : ℕ) → get_or b i 0 < 256) → n ≡ from_be_bytes w32 b → 48 ∷ s ≡ encode_upper b
    → (n < 2 ^ 28) × (s ≡ size_digits n)
size_bytes b s n len fits e digits =
    let first = first_small b s len digits in
    let bytes = be_bytes_4 b n len fits e in
    (omega (arith, e, first, fits 1, fits 2, fits 3), ap (λ (t : List ℕ). drop 1 t) digits ∙ ap (λ t. drop 1 (encode_upper t)) (sym bytes))
