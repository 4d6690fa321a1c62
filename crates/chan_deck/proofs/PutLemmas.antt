-- The puts of storage: those of two parts, of zeros, and of one doubleword more.
use Rattle.chan_deck.proofs.Names.{[], ap, append-nil, arith, Bool, cond, drop, drop-replicate, false, is_zero, Item, length, length-append, length-drop, length-replicate, List, pad, put, puts, refl, replicate, suc, sym, take, take-append-le, take_at, true, zero, ℕ, ◌%◌, ◌*◌, ◌++◌, ◌+◌, ◌-◌, ◌/◌, ◌∙◌, ◌∷◌, ◌≡◌, ◌≤◌}
use Rattle.std.proofs.Common.{add-zero, zero-add}
use Rattle.std.proofs.lemmas.List.{nil_from_length, drop-append-le}

pub length_pad : (bytes : List ℕ) (n : ℕ) → length bytes ≤ n → length (pad bytes n) ≡ n
length_pad bytes n h = rw (length-append bytes (replicate (n - length bytes) 0), length-replicate {A = ℕ} (n - length bytes) 0) (omega arith)

both : (b : Bool) (is : List Item) (i : Item) (js : List Item) → cond b (is ++ js) (i ∷ is ++ js) ≡ cond b is (i ∷ is) ++ js
both true is i js = refl
both false is i js = refl

-- puts of two parts
pub puts-append : (m n at : ℕ) (xs ys : List ℕ) → length xs ≡ 8 * m → puts (m + n) at (xs ++ ys) ≡ puts m at xs ++ puts n (at + 8 * m) ys
unfolding puts
puts-append zero n at xs ys h = rw (nil_from_length xs (omega arith), zero-add n, add-zero at) refl
puts-append (suc m) n at xs ys h =
    let long : 8 ≤ length xs = omega arith in
    let k : suc m + n ≡ suc (m + n) = omega arith in
    let at-is : at + 8 * suc m ≡ at + 8 + 8 * m = omega arith in
    let rest = puts-append m n (at + 8) (drop 8 xs) ys (omega (arith, length-drop 8 xs)) in
    rw (k, take-append-le 8 xs ys long, drop-append-le 8 xs ys long, at-is, rest)
    (both (is_zero (take 8 xs)) (puts m (at + 8) (drop 8 xs)) (put at (take 8 xs)) (puts n (at + 8 + 8 * m) ys))

take-zeros : (k m : ℕ) → is_zero (take k (replicate m 0)) ≡ true
take-zeros zero m = refl
take-zeros (suc k) zero = refl
take-zeros (suc k) (suc m) = take-zeros k m

pub puts-zero : (n m at : ℕ) → puts n at (replicate m 0) ≡ []
unfolding puts
puts-zero zero m at = refl
puts-zero (suc n) m at = rw (take-zeros 8 m, drop-replicate {X = ℕ} 8 m 0) (puts-zero n (m - 8) (at + 8))

pub puts-padded : (n : ℕ) (bytes : List ℕ) → length bytes ≤ n → n % 8 ≡ 0 → length bytes % 8 ≡ 0
    → puts (n / 8) 0 (pad bytes n) ≡ puts (length bytes / 8) 0 bytes
puts-padded n bytes h i j =
    let m : n / 8 ≡ length bytes / 8 + (n - length bytes) / 8 = omega arith in
    let parts = puts-append (length bytes / 8) ((n - length bytes) / 8) 0 bytes (replicate (n - length bytes) 0) (omega arith) in
    let zeros = puts-zero ((n - length bytes) / 8) (n - length bytes) (0 + 8 * (length bytes / 8)) in
    rw (m, parts, zeros) (append-nil _)

one_put : (a : ℕ) (word : List ℕ) → length word ≡ 8 → is_zero word ≡ false → puts 1 a word ≡ put a word ∷ []
unfolding puts
one_put a word k z =
    let t : take 8 word ≡ word = ap (λ w. take 8 w) (sym (append-nil word)) ∙ take_at word [] 8 k in
    rw (t, z) refl

pub puts-put : (a : ℕ) (bytes word : List ℕ) → length bytes ≤ a → a % 8 ≡ 0 → length bytes % 8 ≡ 0 → length word ≡ 8 → is_zero word ≡ false
    → puts (length (pad bytes a ++ word) / 8) 0 (pad bytes a ++ word) ≡ puts (length bytes / 8) 0 bytes ++ put a word ∷ []
unfolding puts
puts-put a bytes word h i j k z =
    let len = length_pad bytes a h in
    let m : length (pad bytes a ++ word) / 8 ≡ a / 8 + 1 = rw (length-append (pad bytes a) word, len, k) (omega arith) in
    let two = puts-append (a / 8) 1 0 (pad bytes a) word (len ∙ omega arith) in
    let at : 0 + 8 * (a / 8) ≡ a = omega arith in
    let one : puts 1 (0 + 8 * (a / 8)) word ≡ put a word ∷ [] = rw (at) (one_put a word k z) in
    ap (λ q. puts q 0 (pad bytes a ++ word)) m ∙ two ∙ ap (λ is. puts (a / 8) 0 (pad bytes a) ++ is) one
    ∙ ap (λ is. is ++ put a word ∷ []) (puts-padded a bytes h i j)
