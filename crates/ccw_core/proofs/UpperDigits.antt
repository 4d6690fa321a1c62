-- Hexadecimal digits in capitals: each is a capital or a number, and they are read as the bytes that
-- they were written of.
use Rattle.std.proofs.Common.{[], ◌∷◌, ◌+◌, ◌*◌, ◌/◌, ◌%◌, ◌<◌, ◌==◌, ◌≡◌, ◌∙◌, ◌&&◌, ap, arith, Bool, false, if◌then◌else◌, inl, inr, Err, IsAscii, length, List, map, nat_lt, None, Ok, Option, Result, refl, slice_index, Some, subst, suc, sym, true, zero, ℕ}
use Rattle.std.specs.Prelude.{is_ok, is_some, MatchResult, OnOk}
use Rattle.std.specs.Result.{result_unwrap_or}
use Rattle.std.specs.Char.{is_ascii_lowercase, to_ascii_uppercase}
use Rattle.std.proofs.lemmas.Bool.{and_parts, cases_lt, eqb-true, ltb-true}
use Rattle.std.proofs.lemmas.List.Elements.{All-head, All-tail}
use Rattle.std.specs.List.{AllPass}
use Rattle.hex.specs.declared.error.FromHexError.{FromHexError}
use Rattle.hex.specs.Hex.{decode_of, decode_pairs, decode_sized, encode_lower, encode_upper, encode_with, hex_digit_value, is_hex_digit, IsBytes, lower_digits, pair_value, upper_digits}
use Rattle.hex.proofs.HexLemmas.{decode_of-encode_upper, decode_of-even, decode_of-ok, decode_sized-ok, decode_sized-twice, IsAscii-encode_with, length-encode_with}
use Rattle.hex.proofs.Pairs.{cons_byte, decode_pairs-ok_pair}

-- ---- tests of the sixteen digits

abbrev pub all_pass : (ℕ → Bool) → List ℕ → Bool
all_pass p [] = true
all_pass p (x ∷ xs) = p x && all_pass p xs

pub passes : (p : ℕ → Bool) (t : List ℕ) → all_pass p t ≡ true → p 0 ≡ true → (k : ℕ) → p (slice_index t k) ≡ true
passes p [] h z k = z
passes p (x ∷ t) h z zero = (and_parts (p x) (all_pass p t) h).0
passes p (x ∷ t) h z (suc k) = passes p t (and_parts (p x) (all_pass p t) h).1 z k

-- each digit of bytes passes a test that the sixteen pass
pub digits_pass : (p : ℕ → Bool) → all_pass p upper_digits ≡ true → p 0 ≡ true
    → (bytes : List ℕ) → all_pass p (encode_upper bytes) ≡ true
unfolding encode_with
digits_pass p h z [] = refl
digits_pass p h z (b ∷ bytes) = rw (passes p upper_digits h z (b / 16), passes p upper_digits h z (b % 16), digits_pass p h z bytes) refl

-- ---- small letters made capitals

raised : (t : List ℕ) (k : ℕ) → to_ascii_uppercase (slice_index t k) ≡ slice_index (map to_ascii_uppercase t) k
raised [] k = refl
raised (x ∷ t) zero = refl
raised (x ∷ t) (suc k) = raised t k

pub capitals : (bytes : List ℕ) → map to_ascii_uppercase (encode_lower bytes) ≡ encode_upper bytes
unfolding encode_with
capitals [] = refl
capitals (b ∷ bytes) = rw (raised lower_digits (b / 16), raised lower_digits (b % 16), capitals bytes) refl

-- ---- digits read

abbrev all_below : (ℕ → Bool) → ℕ → Bool
all_below p zero = true
all_below p (suc n) = p n && all_below p n

below : (p : ℕ → Bool) (n k : ℕ) → all_below p n ≡ true → k < n → p k ≡ true
below p zero k h lt = absurd (omega arith)
below p (suc n) k h lt =
    let parts = and_parts (p n) (all_below p n) h in
    elim (cases_lt k n) [
      | inl under ↦ below p n k parts.1 under
      | inr top ↦
          let e : n ≡ k = omega arith in
          subst (λ j. p j ≡ true) e parts.0
    ]

-- a value is a capital's or a number's, or the digit is a small letter
abbrev fits : ℕ → Option ℕ → Bool
fits c None = true
fits c (Some v) = if is_ascii_lowercase c then true else (nat_lt v 16 && c == slice_index upper_digits v)

digit_told : (c v : ℕ) → c < 256 → is_ascii_lowercase c ≡ false → hex_digit_value c ≡ Some v
    → (v < 16) × (c ≡ slice_index upper_digits v)
digit_told c v lt capital h =
    let right : fits c (Some v) ≡ true = ap (fits c) (sym h) ∙ below (λ d. fits d (hex_digit_value d)) 256 c refl lt in
    let parts = and_parts (nat_lt v 16) (c == slice_index upper_digits v) (rw capital at right) in
    (ltb-true v 16 parts.0, eqb-true c (slice_index upper_digits v) parts.1)

-- the value that a digit has
value_told : (c : ℕ) → is_hex_digit c ≡ true → (v : ℕ) × (hex_digit_value c ≡ Some v)
value_told c h = told (hex_digit_value c) h where
  told : (o : Option ℕ) → is_some o ≡ true → (v : ℕ) × (o ≡ Some v)
  told (Some v) h = (v, refl)
  told None h = cc h

-- a text of digits without a small letter is what the bytes that it is read as are written as
pub read_back : (i : ℕ) (t : List ℕ) → length t % 2 ≡ 0 → AllPass is_hex_digit t → IsBytes t
    → ((k : ℕ) → is_ascii_lowercase (slice_index t k) ≡ false)
    → (bytes : List ℕ) × (decode_pairs i t ≡ Ok bytes) × (t ≡ encode_upper bytes)
unfolding encode_with decode_pairs
read_back i [] even digits fit capital = ([], refl, refl)
read_back i (a ∷ []) even digits fit capital = absurd (omega arith)
read_back i (a ∷ b ∷ rest) even digits fit capital =
    let tail = All-tail (λ c. is_hex_digit c ≡ true) a (b ∷ rest) digits in
    let high = value_told a (All-head (λ c. is_hex_digit c ≡ true) a (b ∷ rest) digits) in
    let low = value_told b (All-head (λ c. is_hex_digit c ≡ true) b rest tail) in
    let first = digit_told a high.0 (fit 0) (capital 0) high.1 in
    let second = digit_told b low.0 (fit 1) (capital 1) low.1 in
    let more = read_back (i + 2) rest (omega arith) (All-tail (λ c. is_hex_digit c ≡ true) b rest tail)
    (λ k. fit (suc (suc k))) (λ k. capital (suc (suc k))) in
    let byte : ℕ = high.0 * 16 + low.0 in
    let pair : pair_value a b i ≡ Ok byte = rw (high.1, low.1) refl in
    let top : byte / 16 ≡ high.0 = omega (arith, second.0) in
    let bottom : byte % 16 ≡ low.0 = omega (arith, second.0) in
    (byte ∷ more.0, decode_pairs-ok_pair i a b byte rest pair ∙ ap (cons_byte byte) more.1, rw (top, bottom, ← first.1, ← second.1, ← more.2) refl)

-- ---- what an answer says

pub on_ok : {T E : Type 0} (r : Result T E) (P : Type 0) → true ≡ is_ok r → OnOk r P → P
on_ok (Ok x) P ok h = h
on_ok (Err e) P ok h = cc ok

-- what is pushed to a text stands at its end
pub on_pushed : {T E : Type 0} (r : Result T E) (text added kept whole : List ℕ)
    → text ≡ (if is_ok r then added else kept) → added ≡ whole → OnOk r (text ≡ whole)
on_pushed (Ok x) text added kept whole h e = h ∙ e
on_pushed (Err x) text added kept whole h e = tt

-- what has been decoded into room for it
pub decoded : (read : Result (List ℕ) FromHexError) (result : Result (Unit {0}) FromHexError) (into : List ℕ)
    → MatchResult read (λ bytes. (result ≡ Ok tt) × (into ≡ bytes)) (λ e. result ≡ Err e) → (u : Unit {0}) → result ≡ Ok u → read ≡ Ok into
decoded (Ok bytes) result into h u ok = ap Ok (sym h.1)
decoded (Err e) result into h u ok = cc (h, ok)

pub ascii_digits : (bytes : List ℕ) → IsAscii (encode_upper bytes)
ascii_digits bytes = IsAscii-encode_with upper_digits bytes (λ i. ltb-true _ 128 (passes (λ c. nat_lt c 128) upper_digits refl refl i))

-- no digit of bytes is a small letter
pub never_small : (bytes : List ℕ) (i : ℕ) → is_ascii_lowercase (slice_index (encode_upper bytes) i) ≡ false
never_small bytes i = not_true _ (passes capital (encode_upper bytes) (digits_pass capital refl refl bytes) refl i) where
  capital : ℕ → Bool
  capital c = if is_ascii_lowercase c then false else true

  not_true : (b : Bool) → (if b then false else true) ≡ true → b ≡ false
  not_true true h = cc h
  not_true false h = refl

-- what is read without a small letter was written so
pub read_well : (t bytes : List ℕ) (n : ℕ)
    → decode_sized t n ≡ Ok bytes → IsBytes t → ((k : ℕ) → is_ascii_lowercase (slice_index t k) ≡ false)
    → (length bytes ≡ n) × IsBytes bytes × (t ≡ encode_upper bytes)
read_well t bytes n h fit capital =
    let of : decode_of t ≡ Ok bytes = sym (decode_sized-twice t n (decode_sized-ok t n bytes h)) ∙ h in
    let whole = decode_of-ok t bytes of in
    let told = read_back 0 t whole.0 whole.1 fit capital in
    let same : told.0 ≡ bytes = ap (λ r. result_unwrap_or r []) (sym told.1 ∙ sym (decode_of-even t whole.0) ∙ of) in
    let twice : length t ≡ 2 * n = decode_sized-ok t n bytes h in
    let width : length t ≡ 2 * length bytes = whole.2 in
    (omega (arith, twice, width), whole.3, told.2 ∙ ap encode_upper same)

-- the digits of n bytes are read as these
pub reads : (bytes : List ℕ) (n : ℕ) → length bytes ≡ n → IsBytes bytes → decode_sized (encode_upper bytes) n ≡ Ok bytes
reads bytes n len are =
    let twice : length (encode_upper bytes) ≡ 2 * n = length-encode_with upper_digits bytes ∙ ap (λ k. 2 * k) len in
    decode_sized-twice (encode_upper bytes) n twice ∙ decode_of-encode_upper bytes are
