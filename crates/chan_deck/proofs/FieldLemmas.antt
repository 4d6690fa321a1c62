-- The parts of a line: what follows a word, and two fields with a space between them.
use Rattle.chan_deck.proofs.Names.{[], address_digits, ap, arith, bytes_high_first, drop, encode_upper, encode_with, get_or, IsAddress, IsBytes, length, length-append, line, List, None, Option, put, refl, Some, suc, sym, ℕ, ◌*◌, ◌++◌, ◌+◌, ◌∙◌, ◌∷◌, ◌≡◌}
use Rattle.std.proofs.Common.{MatchOption}
use Rattle.chan_deck.specs.Item.{IsWord}
use Rattle.chan_deck.proofs.ByteNumbers.{address_bytes}
use Rattle.chan_deck.proofs.UpperDigits.{bytes_at, length-encode_upper}

pub on_none : {A : Type 0} (r : Option A) (P : Type 0) (Q : A → Type 0) → r ≡ None → P → MatchOption r P Q
on_none None P Q e h = h
on_none (Some x) P Q e h = absurd cc

-- what follows a word is one thing
pub cancel : (w a b : List ℕ) → w ++ a ≡ w ++ b → a ≡ b
cancel [] a b e = e
cancel (c ∷ w) a b e = cancel w a b cc

-- two parts are one pair, where the first has one length
pub same_parts : (a b c d : List ℕ) → length a ≡ length c → a ++ b ≡ c ++ d → (a ≡ c) × (b ≡ d)
same_parts [] b [] d len e = (refl, e)
same_parts [] b (y ∷ c) d len e = absurd (omega arith)
same_parts (x ∷ a) b [] d len e = absurd (omega arith)
same_parts (x ∷ a) b (y ∷ c) d len e =
    let rest = same_parts a b c d (omega arith) cc in
    let head : x ≡ y = cc in
    (ap (λ k. k ∷ a) head ∙ ap (λ (t : List ℕ). y ∷ t) rest.0, rest.1)

pub length-address_digits : (n : ℕ) → length (address_digits n) ≡ 6
length-address_digits n = length-encode_upper (bytes_high_first 3 n)

-- two fields behind a word
pub same_behind : (w a b c d : List ℕ) → length a ≡ length c → w ++ (a ++ 32 ∷ b) ≡ w ++ (c ++ 32 ∷ d) → (a ≡ c) × (b ≡ d)
same_behind w a b c d len e =
    let same = same_parts a (32 ∷ b) c (32 ∷ d) len (cancel w _ _ e) in
    (same.0, cc)

-- each line of a put has the same length
pub put_length : (a : ℕ) (word : List ℕ) → IsWord word → length (line (put a word)) ≡ 27
put_length a word is = omega (arith, length-append (address_digits a) (32 ∷ encode_upper word), length-address_digits a, length-encode_upper word, is.0)

-- an address in the first of two fields, whose digits were read together
pub address_first : (first second b : List ℕ) (n : ℕ) → length first ≡ 6 → first ++ second ≡ encode_upper b → IsBytes b
    → n ≡ get_or b 0 0 * 65536 + get_or b 1 0 * 256 + get_or b 2 0
    → IsAddress n × (first ≡ address_digits n) × (second ≡ encode_upper (drop 3 b)) × IsBytes (drop 3 b)
unfolding encode_with
address_first first second (x ∷ y ∷ z ∷ rest) n len e fits is =
    let three = address_bytes (x ∷ y ∷ z ∷ []) n refl (bytes_at (x ∷ y ∷ z ∷ []) (fits 0, (fits 1, (fits 2, tt)))) is in
    let same = same_parts first second (encode_upper (x ∷ y ∷ z ∷ [])) (encode_upper rest) len e in
    (three.0, same.0 ∙ ap encode_upper (sym three.1), same.1, λ i. fits (suc (suc (suc i))))
address_first first second b n len e fits is = absurd (omega (arith, ap length e, length-append first second))

-- the digits of an address and those after it are the digits of all their bytes
pub address_and : (n : ℕ) (bytes : List ℕ) → address_digits n ++ encode_upper bytes ≡ encode_upper (bytes_high_first 3 n ++ bytes)
unfolding encode_with
address_and n bytes = refl
