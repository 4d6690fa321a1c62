-- A line says one thing, and has no line feed in it.
use Rattle.chan_deck.proofs.Names.{[], address_digits, all_append, AllByRecursion, and_parts, ap, Area, area_digits, arith, Bool, byte_digits, bytes_eq-Decides, bytes_high_first, cases_lt, cond, cylinder_digits, D2311, D2314, Decides, Decides-eqb, device, drop, encode_upper, encode_with, end, Err, extent, false, fetch, get_or, HasForm, header, inl, inr, IsAddress, IsArea, IsByte, Item, length, limit, line, LineSays, LineSaysIfAny, List, mask, nat_tests, None, not, not-true, Ok, Option, put, refl, Result, size_digits, Some, start, storage, STORAGE_LIMIT, store, subst, sym, take, true, ℕ, ◌%◌, ◌*◌, ◌++◌, ◌+◌, ◌-◌, ◌/◌, ◌<◌, ◌==◌, ◌^◌, ◌∙◌, ◌∷◌, ◌≡◌, ◌⊎◌}
use Rattle.std.specs.Prelude.{codes}
use Rattle.hex.specs.Hex.{decode_of}
use Rattle.hex.specs.declared.error.FromHexError.{FromHexError}
use Rattle.hex.proofs.HexLemmas.{decode_of-encode_upper}
use Rattle.chan_deck.specs.Item.{limit_digits}
use Rattle.chan_deck.specs.declared.version.VersionNumber.TheVariants as numbers
use Rattle.chan_deck.proofs.Elements.{all_drop}
use Rattle.chan_deck.proofs.ByteNumbers.{bytes_three, bytes_four}
use Rattle.ccw_core.proofs.UpperDigits.{all_pass, digits_pass}
use Rattle.chan_deck.proofs.UpperDigits.{bytes_at, with_zero}

-- ---- no line feeds

abbrev pub HasNoFeed : List ℕ → Type 0
HasNoFeed l = AllByRecursion (λ b. (b == 10) ≡ false) l

no_feed-append : (xs ys : List ℕ) → HasNoFeed xs → HasNoFeed ys → HasNoFeed (xs ++ ys)
no_feed-append xs ys h k = all_append (λ b. (b == 10) ≡ false) xs ys h k

abbrev is_other : ℕ → Bool
is_other b = not (b == 10)

from_test : (l : List ℕ) → all_pass is_other l ≡ true → HasNoFeed l
from_test [] h = tt
from_test (b ∷ l) h = let t = and_parts (is_other b) (all_pass is_other l) h in (not-true (b == 10) t.0, from_test l t.1)

upper_no_feed : (bytes : List ℕ) → HasNoFeed (encode_upper bytes)
upper_no_feed bytes = from_test (encode_upper bytes) (digits_pass is_other refl refl bytes)

above_feed : (c : ℕ) → 10 < c → (c == 10) ≡ false
above_feed c h = grind (arith, nat_tests)

cylinder_no_feed : (n : ℕ) → HasNoFeed (cylinder_digits n)
cylinder_no_feed n = (above_feed _ (omega arith), (above_feed _ (omega arith), (above_feed _ (omega arith), tt)))

limit_no_feed : (n : ℕ) → HasNoFeed (limit_digits n)
limit_no_feed n =
    let above = λ (c : ℕ). above_feed (48 + c) (omega arith) in
    (above (n / 10000), (above (n / 1000 % 10), (above (n / 100 % 10), (above (n / 10 % 10), (above (n % 10), tt)))))

area_no_feed : (a : Area) → HasNoFeed (area_digits a)
area_no_feed a =
    no_feed-append (address_digits a.start) (32 ∷ address_digits a.len) (upper_no_feed (bytes_high_first 3 a.start))
    (refl, upper_no_feed (bytes_high_first 3 a.len))

pub line_no_feed : (i : Item) → HasNoFeed (line i)
line_no_feed (header numbers.One) = from_test (line (header numbers.One)) refl
line_no_feed (device D2311) = from_test (line (device D2311)) refl
line_no_feed (mask m) = no_feed-append (codes "mask ") (byte_digits m) (from_test (codes "mask ") refl) (upper_no_feed (m ∷ []))
line_no_feed (start a) = no_feed-append (codes "start ") (address_digits a) (from_test (codes "start ") refl) (upper_no_feed (bytes_high_first 3 a))
line_no_feed (limit n) = no_feed-append (codes "limit ") (limit_digits n) (from_test (codes "limit ") refl) (limit_no_feed n)
line_no_feed (extent first last) =
    no_feed-append (codes "extent ") (cylinder_digits first ++ (codes " " ++ cylinder_digits last)) (from_test (codes "extent ") refl)
    (no_feed-append (cylinder_digits first) (32 ∷ cylinder_digits last) (cylinder_no_feed first) (refl, cylinder_no_feed last))
line_no_feed (fetch a) = no_feed-append (codes "fetch ") (area_digits a) (from_test (codes "fetch ") refl) (area_no_feed a)
line_no_feed (store a) = no_feed-append (codes "store ") (area_digits a) (from_test (codes "store ") refl) (area_no_feed a)
line_no_feed (storage n) =
    no_feed-append (codes "storage ") (size_digits n) (from_test (codes "storage ") refl)
    (all_drop (λ b. (b == 10) ≡ false) 1 (encode_upper (bytes_high_first 4 n)) (upper_no_feed (bytes_high_first 4 n)))
line_no_feed (put a word) =
    no_feed-append (codes "put ") (address_digits a ++ (codes " " ++ encode_upper word)) (from_test (codes "put ") refl)
    (no_feed-append (address_digits a) (32 ∷ encode_upper word) (upper_no_feed (bytes_high_first 3 a)) (refl, upper_no_feed word))
line_no_feed i = from_test (line i) refl

-- what says something has no line feed in it
pub said_no_feed : (l : List ℕ) (o : Option Item) → LineSaysIfAny l o → (o ≡ None → ⊥) → HasNoFeed l
said_no_feed l None says some = absurd (some refl)
said_no_feed l (Some i) says some = subst HasNoFeed (sym says.1) (line_no_feed i)

-- ---- what a line says, read back

abbrev bytes_or_none : Result (List ℕ) FromHexError → List ℕ
bytes_or_none (Ok bytes) = bytes
bytes_or_none (Err e) = []

-- the bytes that digits spell
abbrev bytes_in : List ℕ → List ℕ
bytes_in digits = bytes_or_none (decode_of digits)

bytes_back : (bytes : List ℕ) → AllByRecursion IsByte bytes → bytes_in (encode_upper bytes) ≡ bytes
bytes_back bytes h = ap bytes_or_none (decode_of-encode_upper bytes (bytes_at bytes h))

-- the number that bytes make, the first of them behind a number
abbrev number_in : ℕ → List ℕ → ℕ
number_in n [] = n
number_in n (b ∷ bytes) = number_in (n * 256 + b) bytes

abbrev address_in : List ℕ → ℕ
address_in digits = number_in 0 (bytes_in digits)

byte_back : (n : ℕ) → IsByte n → address_in (byte_digits n) ≡ n
byte_back n h = ap (number_in 0) (bytes_back (n ∷ []) (h, tt)) ∙ omega arith

address_back : (n : ℕ) → IsAddress n → address_in (address_digits n) ≡ n
address_back n h = ap (number_in 0) (bytes_back (bytes_high_first 3 n) (bytes_three n)) ∙ omega arith

size_back : (n : ℕ) → n < 2 ^ 28 → address_in (48 ∷ size_digits n) ≡ n
size_back n h =
    ap address_in (with_zero (n / 16777216 % 256) (bytes_high_first 3 n) (omega arith))
    ∙ ap (number_in 0) (bytes_back (bytes_high_first 4 n) (bytes_four n)) ∙ omega arith

-- the number of decimal digits, behind a number
abbrev decimal_in : ℕ → List ℕ → ℕ
decimal_in n [] = n
decimal_in n (d ∷ digits) = decimal_in (n * 10 + (d - 48)) digits

cylinder_back : (n : ℕ) → n < 1000 → decimal_in 0 (cylinder_digits n) ≡ n
cylinder_back n h = omega arith

limit_back : (n : ℕ) → n < 100000 → decimal_in 0 (limit_digits n) ≡ n
limit_back n h = omega arith

abbrev area_in : List ℕ → Area
area_in l = record { start = address_in (take 6 l); len = address_in (drop 7 l) }

area_back : (a : Area) → IsArea a → area_in (area_digits a) ≡ a
unfolding encode_with
area_back a h =
    ap (λ (x : ℕ). record { start = x; len = address_in (address_digits a.len) }) (address_back a.start h.0)
    ∙ ap (λ (x : ℕ). record { start = a.start; len = x }) (address_back a.len h.1)

-- a number that tells the forms apart, of the first letters of a line
abbrev tag_of : List ℕ → ℕ
tag_of l = cond (get_or l 0 0 == 115) (get_or l 2 0 * 1000 + get_or l 4 0) (get_or l 0 0 * 1000 + get_or l 1 0)

-- what a line says, if it says anything
abbrev read : List ℕ → Item
read l =
    let is : List ℕ → Bool = λ w. tag_of l == tag_of w in
    cond (is (codes "chanv")) (header (cond (get_or l 11 0 == 49) numbers.One numbers.Two))
    (cond (is (codes "device")) (device (cond (get_or l 10 0 == 49) D2311 D2314))
    (cond (is (codes "mask ")) (mask (address_in (drop 5 l)))
    (cond (is (codes "start")) (start (address_in (drop 6 l)))
    (cond (is (codes "limit")) (limit (decimal_in 0 (drop 6 l)))
    (cond (is (codes "extent")) (extent (decimal_in 0 (take 3 (drop 7 l))) (decimal_in 0 (drop 11 l)))
    (cond (is (codes "fetch")) (fetch (area_in (drop 6 l)))
    (cond (is (codes "store")) (store (area_in (drop 6 l)))
    (cond (is (codes "storage")) (storage (address_in (48 ∷ drop 8 l)))
    (cond (is (codes "put ")) (put (address_in (take 6 (drop 4 l))) (bytes_in (drop 11 l))) end)))))))))

read_back : (i : Item) → HasForm i → read (line i) ≡ i
unfolding encode_with
read_back (header numbers.One) h = refl
read_back (header numbers.Two) h = refl
read_back (device D2311) h = refl
read_back (device D2314) h = refl
read_back (mask m) h = ap mask (byte_back m h)
read_back (start a) h = ap start (address_back a h)
read_back (limit n) h = ap limit (limit_back n h)
read_back (extent a b) h = ap (λ x. extent x (decimal_in 0 (cylinder_digits b))) (cylinder_back a h.0) ∙ ap (λ x. extent a x) (cylinder_back b h.1)
read_back (fetch a) h = ap fetch (area_back a h)
read_back (store a) h = ap store (area_back a h)
read_back (storage n) h = ap storage (size_back n h)
read_back (put a w) h = ap (λ x. put x (bytes_in (encode_upper w))) (address_back a h.0) ∙ ap (λ x. put a x) (bytes_back w h.1.1)
read_back end h = refl

-- a line says one thing
pub one_item : (i j : Item) → HasForm i → HasForm j → line i ≡ line j → i ≡ j
one_item i j hi hj e = sym (read_back i hi) ∙ ap read e ∙ read_back j hj

pub says_one : (l : List ℕ) (i j : Item) → LineSays l i → LineSays l j → i ≡ j
says_one l i j hi hj = one_item i j hi.0 hj.0 (sym hi.1 ∙ hj.1)

-- ---- whether a line says something

-- it holds or it doesn't
abbrev Settled : Type 0 → Type 0
Settled P = P ⊎ (P → ⊥)

by_test : (P : Type 0) (b : Bool) → Decides b P → Settled P
by_test P true d = inl (d.0 refl)
by_test P false d = inr (λ p. absurd (cc (d.1 p)))

both : (A B : Type 0) → Settled A → Settled B → Settled (A × B)
both A B (inl a) (inl b) = inl (a, b)
both A B (inr none) b = inr (λ x. none x.0)
both A B a (inr none) = inr (λ x. none x.1)

under : (n bound : ℕ) → Settled (n < bound)
under n bound = elim (cases_lt n bound) [
  | inl lt ↦ inl lt
  | inr le ↦ inr (λ lt. omega arith)
]

bytes_settled : (bytes : List ℕ) → Settled (AllByRecursion IsByte bytes)
bytes_settled [] = inl tt
bytes_settled (b ∷ bytes) = both (IsByte b) (AllByRecursion IsByte bytes) (under b 256) (bytes_settled bytes)

form_settled : (i : Item) → Settled (HasForm i)
form_settled (mask m) = under m 256
form_settled (start a) = under a STORAGE_LIMIT
form_settled (limit n) = under n 100000
form_settled (extent a b) = both _ _ (under a 1000) (under b 1000)
form_settled (fetch a) = both _ _ (under a.start STORAGE_LIMIT) (under a.len STORAGE_LIMIT)
form_settled (store a) = both _ _ (under a.start STORAGE_LIMIT) (under a.len STORAGE_LIMIT)
form_settled (storage n) = under n (2 ^ 28)
form_settled (put a w) =
    both _ _ (under a STORAGE_LIMIT) (both _ _ (by_test (length w ≡ 8) (length w == 8) (Decides-eqb (length w) 8)) (bytes_settled w))
form_settled i = inl tt

-- a line says something, what it is read as, or nothing
pub line_read : (l : List ℕ) → (o : Option Item) × LineSaysIfAny l o
line_read l =
    elim (both (HasForm (read l)) (l ≡ line (read l)) (form_settled (read l)) (by_test _ _ (bytes_eq-Decides l (line (read l))))) [
      | inl says ↦ (Some (read l), says)
      | inr none ↦ (None, λ i says. none (subst (λ j. LineSays l j) (sym (read_back i says.0) ∙ ap read (sym says.1)) says))
    ]
