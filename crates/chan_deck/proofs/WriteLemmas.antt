-- What is written, line by line.
use Rattle.chan_deck.proofs.Names.{[], ap, append-nil, append_assoc, flat_map-append, arith, Bool, cond, drop, false, is_zero, Item, length, length-append, length-drop, length-replicate, line, List, map, map-append, put, puts, refl, replicate, suc, sym, take, text, true, ℕ, ◌%◌, ◌*◌, ◌++◌, ◌+◌, ◌/◌, ◌<◌, ◌∙◌, ◌∷◌, ◌≡◌, ◌≤◌}
use Rattle.chan_deck.proofs.PutLemmas.{puts-append, puts-zero}

-- ---- puts

put_text : (zeros : Bool) (i : Item) (is : List Item) → text (map line (cond zeros is (i ∷ is))) ≡ cond zeros [] (line i ++ 10 ∷ []) ++ text (map line is)
put_text true i is = refl
put_text false i is = refl

-- a doubleword of zeros is passed over, and any other is put
pub puts_more : (at : ℕ) (rest out new whole : List ℕ) → 8 ≤ length rest
    → new ≡ out ++ cond (is_zero (take 8 rest)) [] (line (put at (take 8 rest)) ++ 10 ∷ [])
    → out ++ text (map line (puts (length rest / 8) at rest)) ≡ whole
    → new ++ text (map line (puts (length (drop 8 rest) / 8) (at + 8) (drop 8 rest))) ≡ whole
unfolding puts
puts_more at rest out new whole some written told =
    let word = take 8 rest in
    let left = puts (length (drop 8 rest) / 8) (at + 8) (drop 8 rest) in
    let one : length rest / 8 ≡ suc (length (drop 8 rest) / 8) = omega (arith, length-drop 8 rest) in
    let more = ap (λ n. text (map line (puts n at rest))) one ∙ put_text (is_zero word) (put at word) left in
    ap (λ t. t ++ text (map line left)) written ∙ append_assoc out (cond (is_zero word) [] (line (put at word) ++ 10 ∷ [])) (text (map line left))
    ∙ ap (λ t. out ++ t) (sym more) ∙ told

pub no_puts_left : (at : ℕ) (rest out : List ℕ) → length rest < 8 → out ++ text (map line (puts (length rest / 8) at rest)) ≡ out
unfolding puts
no_puts_left at rest out few =
    let none : length rest / 8 ≡ 0 = omega arith in
    ap (λ n. out ++ text (map line (puts n at rest))) none ∙ append-nil out

-- zeros in front are passed over
past_front : (k n a : ℕ) (S : List ℕ)
    → puts (k + n) a (replicate (8 * k) 0 ++ S) ≡ puts n (a + 8 * k) S
past_front k n a S =
    rw (puts-append k n a (replicate (8 * k) 0) S (length-replicate (8 * k) 0), puts-zero k (8 * k) a) refl

pub length_behind : (at : ℕ) (S : List ℕ) → length (replicate at 0 ++ S) ≡ at + length S
length_behind at S = length-append (replicate at 0) S ∙ ap (λ m. m + length S) (length-replicate at 0)

-- storage that is zero up to an address has the puts of what follows
pub puts_behind : (at : ℕ) (S : List ℕ) → at % 8 ≡ 0
    → puts (length (replicate at 0 ++ S) / 8) 0 (replicate at 0 ++ S) ≡ puts (length S / 8) at S
puts_behind at S whole =
    let k = at / 8 in
    let front : at ≡ 8 * k = omega arith in
    let words : length (replicate at 0 ++ S) / 8 ≡ k + length S / 8 = omega (arith, length_behind at S) in
    let end : 0 + 8 * k ≡ at = omega arith in
    ap (λ m. puts m 0 (replicate at 0 ++ S)) words ∙ ap (λ m. puts (k + length S / 8) 0 (replicate m 0 ++ S)) front
    ∙ past_front k (length S / 8) 0 S ∙ ap (λ b. puts (length S / 8) b S) end

-- ---- the whole text

-- the text of six parts of a deck
pub six_texts : (a b c d e f : List Item)
    → ((((text (map line a) ++ text (map line b)) ++ text (map line c)) ++ text (map line d)) ++ text (map line e)) ++ text (map line f)
    ≡ text (map line (a ++ b ++ c ++ d ++ e ++ f))
six_texts a b c d e f = simp (map-append, flat_map-append, append_assoc)

pub five_parts : (o a b c d e : List ℕ) → ((((o ++ a) ++ b) ++ c) ++ d) ++ e ≡ o ++ (a ++ (b ++ (c ++ (d ++ e))))
five_parts o a b c d e = simp append_assoc

-- ---- the text of needs

-- the text of needs, part by part
pub needs_parts : (a b c d : List Item) (ls : List (List ℕ))
    → (((text (map line a) ++ text (map line b)) ++ text (map line c)) ++ text (map line d)) ++ text ls
    ≡ text (map line (a ++ b ++ c ++ d) ++ ls)
needs_parts a b c d ls = simp (map-append, flat_map-append, append_assoc)
