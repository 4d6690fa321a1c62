-- The fields and the eight bytes of a channel command word are two forms of one thing.
use Rattle.std.proofs.Common.{Bool, IsAscii, List, [], ap, arith, codes, false, get_or, if◌then◌else◌, length, refl, suc, sym, zero, true, ℕ, ◌*◌, ◌++◌, ◌+◌, ◌<◌, ◌∙◌, ◌∷◌, ◌≡◌}
use Rattle.std.proofs.lemmas.Str.{IsAscii-append}
use Rattle.std.proofs.lemmas.Str.Ascii.{IsAscii-cons, IsAscii-nil}
use Rattle.hex.specs.Hex.{encode_upper}
use Rattle.ccw_core.proofs.UpperDigits.{ascii_digits}
use Rattle.byteorder.specs.Endian.{big_bytes}
use Rattle.byteorder.specs.Numbers.{big_number-reads_back}
use Rattle.ccw_core.specs.Ccw.{Fields, ccw, bytes_of, flag_letters, is_on, letter_of}
use Rattle.ccw_core.proofs.BigEndian.{big_bytes-two, big_bytes-three, eight}
use Rattle.ccw_core.specs.declared.ccw.TheConstants.{STORAGE_LIMIT}

-- the bytes of a CCW hold the CCW
pub ccw-bytes_of : (c : Fields) → c.address < STORAGE_LIMIT → c.count < 65536 → ccw (bytes_of c) 0 ≡ c
unfolding ccw
ccw-bytes_of c ha hc =
    let address = big_number-reads_back 3 c.address (c.flags ∷ c.spare ∷ big_bytes 2 c.count) ha in
    let count = big_number-reads_back 2 c.count [] hc in
    let a : get_or (bytes_of c) 1 0 * 65536 + get_or (bytes_of c) 2 0 * 256 + get_or (bytes_of c) 3 0 ≡ c.address = omega (arith, address) in
    let n : get_or (bytes_of c) 6 0 * 256 + get_or (bytes_of c) 7 0 ≡ c.count = omega (arith, count) in
    rw (a, n) refl

-- the CCW in eight bytes has these bytes
pub bytes_of-ccw : (bs : List ℕ) → length bs ≡ 8 → ((i : ℕ) → get_or bs i 0 < 256) → bytes_of (ccw bs 0) ≡ bs
unfolding ccw
bytes_of-ccw bs len fits =
    let at : ℕ → ℕ = λ i. get_or bs i 0 in
    let address = big_bytes-three (at 1) (at 2) (at 3) (fits 1) (fits 2) (fits 3) in
    let count = big_bytes-two (at 6) (at 7) (fits 6) (fits 7) in
    ap (λ a. (at 0 ∷ a) ++ (at 4 ∷ at 5 ∷ big_bytes 2 (at 6 * 256 + at 7))) address
    ∙ ap (λ n. at 0 ∷ at 1 ∷ at 2 ∷ at 3 ∷ at 4 ∷ at 5 ∷ n) count
    ∙ sym (eight bs len)

-- two storages that hold the same eight bytes from two addresses on hold the same word there
pub ccw-same : (s t : List ℕ) (a b : ℕ) → ((i : ℕ) → i < 8 → get_or s (a + i) 0 ≡ get_or t (b + i) 0) → ccw s a ≡ ccw t b
unfolding ccw
ccw-same s t a b same =
    let zero : get_or s a 0 ≡ get_or t b 0 = let e : a + 0 ≡ a = omega arith in let f : b + 0 ≡ b = omega arith in rw (e, f) at (same 0 (omega arith)) in
    rw (zero, same 1 (omega arith), same 2 (omega arith), same 3 (omega arith))
    (rw (same 4 (omega arith), same 5 (omega arith), same 6 (omega arith), same 7 (omega arith)) refl)

-- the text of a CCW before its group
abbrev pub front_text : Fields → List ℕ
front_text c =
    encode_upper (c.command ∷ []) ++ codes " " ++ (encode_upper (big_bytes 3 c.address) ++ codes " " ++ (flag_letters c.flags ++ codes " "
    ++ (encode_upper (c.spare ∷ []) ++ codes " " ++ (encode_upper (big_bytes 2 c.count) ++ codes " " ++ []))))

-- it is ASCII
small_letter : (f flag letter : ℕ) → letter < 128 → letter_of f flag letter < 128
small_letter f flag letter lt = chosen (is_on f flag) where
  chosen : (b : Bool) → (if b then letter else 45) < 128
  chosen true = lt
  chosen false = omega arith

ascii_letters : (f i : ℕ) → get_or (flag_letters f) i 0 < 128
ascii_letters f zero = small_letter f 0x80 68 (omega arith)
ascii_letters f (suc zero) = small_letter f 0x40 67 (omega arith)
ascii_letters f (suc (suc zero)) = small_letter f 0x20 76 (omega arith)
ascii_letters f (suc (suc (suc zero))) = small_letter f 0x10 83 (omega arith)
ascii_letters f (suc (suc (suc (suc zero)))) = small_letter f 0x08 80 (omega arith)
ascii_letters f (suc (suc (suc (suc (suc zero))))) = omega arith
ascii_letters f (suc (suc (suc (suc (suc (suc i)))))) = omega arith

then_blank : (xs ys : List ℕ) → IsAscii xs → IsAscii ys → IsAscii (xs ++ codes " " ++ ys)
then_blank xs ys h k = IsAscii-append (xs ++ codes " ") ys (IsAscii-append xs (codes " ") h (IsAscii-cons 32 [] (omega arith) IsAscii-nil)) k

pub ascii_text : (c : Fields) → IsAscii (front_text c)
ascii_text c =
    let digits : List ℕ → List ℕ = encode_upper in
    let count = digits (big_bytes 2 c.count) ++ codes " " ++ [] in
    let spare = digits (c.spare ∷ []) ++ codes " " ++ count in
    let letters = flag_letters c.flags ++ codes " " ++ spare in
    let address = digits (big_bytes 3 c.address) ++ codes " " ++ letters in
    then_blank (digits (c.command ∷ [])) address (ascii_digits (c.command ∷ []))
    (then_blank (digits (big_bytes 3 c.address)) letters (ascii_digits (big_bytes 3 c.address))
    (then_blank (flag_letters c.flags) spare (ascii_letters c.flags) (then_blank (digits (c.spare ∷ [])) count (ascii_digits (c.spare ∷ []))
    (then_blank (digits (big_bytes 2 c.count)) [] (ascii_digits (big_bytes 2 c.count)) IsAscii-nil))))
