-- A number made of two or three bytes has these bytes: the other half of what `byteorder` states.
use Rattle.std.proofs.Common.{◌≡◌, ◌<◌, ◌+◌, ◌*◌, ◌/◌, ◌%◌, ℕ, List, [], ◌∷◌, length, get_or, refl, ap, ◌∙◌, arith}
use Rattle.std.proofs.Math.Seq.{drop-cons}
use Rattle.std.proofs.lemmas.List.{drop_all}
use Rattle.byteorder.specs.Endian.{big_bytes}

pub big_bytes-two : (a b : ℕ) → a < 256 → b < 256 → big_bytes 2 (a * 256 + b) ≡ a ∷ b ∷ []
big_bytes-two a b ha hb =
    let high : (a * 256 + b) / 256 % 256 ≡ a = omega arith in
    let low : (a * 256 + b) % 256 ≡ b = omega arith in
    rw (high, low) refl

pub big_bytes-three : (a b c : ℕ) → a < 256 → b < 256 → c < 256 → big_bytes 3 (a * 65536 + b * 256 + c) ≡ a ∷ b ∷ c ∷ []
big_bytes-three a b c ha hb hc =
    let high : (a * 65536 + b * 256 + c) / 65536 % 256 ≡ a = omega arith in
    let middle : (a * 65536 + b * 256 + c) / 256 % 256 ≡ b = omega arith in
    let low : (a * 65536 + b * 256 + c) % 256 ≡ c = omega arith in
    rw (high, middle, low) refl

-- a list of eight numbers, written out
pub eight : (xs : List ℕ) → length xs ≡ 8
    → xs ≡ get_or xs 0 0 ∷ get_or xs 1 0 ∷ get_or xs 2 0 ∷ get_or xs 3 0 ∷ get_or xs 4 0 ∷ get_or xs 5 0 ∷ get_or xs 6 0 ∷ get_or xs 7 0 ∷ []
eight xs h =
    drop-cons xs 0 0 (omega arith)
    ∙ ap (λ t. get_or xs 0 0 ∷ t) (drop-cons xs 1 0 (omega arith)
    ∙ ap (λ t. get_or xs 1 0 ∷ t) (drop-cons xs 2 0 (omega arith)
    ∙ ap (λ t. get_or xs 2 0 ∷ t) (drop-cons xs 3 0 (omega arith)
    ∙ ap (λ t. get_or xs 3 0 ∷ t) (drop-cons xs 4 0 (omega arith)
    ∙ ap (λ t. get_or xs 4 0 ∷ t) (drop-cons xs 5 0 (omega arith)
    ∙ ap (λ t. get_or xs 5 0 ∷ t) (drop-cons xs 6 0 (omega arith)
    ∙ ap (λ t. get_or xs 6 0 ∷ t) (drop-cons xs 7 0 (omega arith)
    ∙ ap (λ t. get_or xs 7 0 ∷ t) (drop_all 8 xs (omega arith)))))))))
