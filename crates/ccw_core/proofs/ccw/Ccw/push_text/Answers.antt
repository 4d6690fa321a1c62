use Rattle.std.proofs.Common.{[], ◌∷◌, ◌≡◌, ◌∙◌, append_assoc, get_or, IsAscii, refl, subst, sym, ℕ}
use Rattle.hex.specs.Hex.{encode_with}
use Rattle.std.proofs.lemmas.Result.{on_ok_weaker}
use Rattle.ccw_core.proofs.CcwLemmas.{ascii_text, front_text}
use Rattle.ccw_core.proofs.ccw.Ccw.push_text.Goals as goal

pub add_ascii-requires : goal.add_ascii-requires
unfolding encode_with
add_ascii-requires g c =
    let d : ℕ → ℕ = λ i. get_or c.doubleword_digits.result i 0 in
    let l : ℕ → ℕ = λ i. get_or c.flag_letters.result i 0 in
    let same : d 0 ∷ d 1 ∷ 32 ∷ d 2 ∷ d 3 ∷ d 4 ∷ d 5 ∷ d 6 ∷ d 7 ∷ 32 ∷ l 0 ∷ l 1 ∷ l 2 ∷ l 3 ∷ l 4 ∷ l 5 ∷ 32
    ∷ d 10 ∷ d 11 ∷ 32 ∷ d 12 ∷ d 13 ∷ d 14 ∷ d 15 ∷ 32 ∷ [] ≡ front_text c.args.self.now =
    rw (c.flag_letters.ensures, c.doubleword_digits.ensures, c.to_bytes-bytes.ensures.bytes) refl in
    subst IsAscii (sym same) (ascii_text c.args.self.now)

pub returns : goal.returns
unfolding encode_with
returns g c =
    let word = rw c.of.ensures at c.word.ensures in
    let all = rw (word, c.in_ok-add_ascii.ensures, c.flag_letters.ensures, c.doubleword_digits.ensures, c.to_bytes-bytes.ensures.bytes)
    at c.add_word.ensures in
    on_ok_weaker c.add_word.result (λ e. e ∙ simp append_assoc refl) all
