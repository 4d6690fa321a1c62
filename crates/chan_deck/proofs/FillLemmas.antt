-- Filling storage: the bytes behind the last put are zeros until a put writes there.
use Rattle.chan_deck.proofs.Names.{and_parts, ap, Area, arith, drop, drop-drop, drop-replicate, drop_at, end, eqb-true, Err, false, false_from_ne_true, Filling, from_be_bytes, Heading, value_of, is_zero, le-leb, leb-true, length, length-append, length-drop, length-take, List, nat_le, Ok, pad, put, refl, replicate, step, sym, take, take-append-add, take-append-drop, take-replicate, take_at, to_be_bytes, true, w64, Whole, ℕ, ◌&&◌, ◌++◌, ◌+◌, ◌-◌, ◌<◌, ◌==◌, ◌^◌, ◌∙◌, ◌≡◌, ◌≤◌}
use Rattle.std.specs.Prelude.{◌%◌}
use Rattle.std.proofs.lemmas.Nat.{from_be_bytes-to_be_bytes_8}
use Rattle.chan_deck.proofs.DeckRuns.{put_step, zeros_is}
use Rattle.chan_deck.specs.declared.cause.Cause.TheVariants as causes

-- ---- eight bytes as a number

all_zero : (bytes : List ℕ) → length bytes ≡ 8 → is_zero bytes ≡ true → from_be_bytes w64 bytes ≡ 0
all_zero bytes len z =
    let same : bytes ≡ replicate 8 0 = zeros_is bytes z ∙ ap (λ (k : ℕ). replicate k 0) len in
    ap (λ t. from_be_bytes w64 t) same

pub zero_word : (n : ℕ) → n ≡ 0 → is_zero (to_be_bytes w64 n) ≡ true
zero_word n e = ap (λ k. is_zero (to_be_bytes w64 k)) e

-- eight bytes are zero only where their number is
pub some_word : (n : ℕ) → n < 2 ^ 64 → (n ≡ 0 → ⊥) → is_zero (to_be_bytes w64 n) ≡ false
some_word n small some = false_from_ne_true (is_zero (to_be_bytes w64 n)) (λ e.
    some (sym (from_be_bytes-to_be_bytes_8 n small) ∙ all_zero (to_be_bytes w64 n) refl e))

-- ---- refusals

pub bad_place : (h : Heading) (es : List (ℕ × ℕ)) (fs ss : List Area) (size a : ℕ) (front w : List ℕ)
    → ((a % 8 ≡ 0) × (length front ≤ a) × (a + 8 ≤ size) → ⊥)
    → step (Filling h es fs ss size front) (put a w) ≡ Err causes.PutAddress
bad_place h es fs ss size a front w bad =
    let place = a % 8 == 0 && nat_le (length front) a && nat_le (a + 8) size in
    let wrong = false_from_ne_true place (λ t.
    let x = and_parts (a % 8 == 0 && nat_le (length front) a) (nat_le (a + 8) size) t in
    let y = and_parts (a % 8 == 0) (nat_le (length front) a) x.0 in
    bad (eqb-true _ _ y.0, leb-true _ _ y.1, leb-true _ _ x.1)) in
    rw wrong refl

pub zero_put : (h : Heading) (es : List (ℕ × ℕ)) (fs ss : List Area) (size a : ℕ) (front w : List ℕ)
    → a % 8 ≡ 0 → length front ≤ a → a + 8 ≤ size → is_zero w ≡ true
    → step (Filling h es fs ss size front) (put a w) ≡ Err causes.PutZero
zero_put h es fs ss size a front w al low fits z = rw (al, le-leb (length front) a low, le-leb (a + 8) size fits, z) refl

-- ---- what a write leaves

pub record IsWordWritten (S new word : List ℕ) (next a : ℕ) : Type 0 where
  pub len : length new ≡ length S
  pub front : take (a + 8) new ≡ pad (take next S) a ++ word
  pub behind : drop (a + 8) new ≡ replicate (length new - (a + 8)) 0

pub written : (S new word : List ℕ) (next a : ℕ) → drop next S ≡ replicate (length S - next) 0
    → next ≤ a → a + 8 ≤ length S → length word ≡ 8
    → new ≡ (take a S ++ word) ++ drop (a + length word) S → IsWordWritten S new word next a
written S new word next a z low fits eight is =
    let T = take next S in
    let lenT : length T ≡ next = omega (arith, length-take next S) in
    let whole : S ≡ T ++ replicate (length S - next) 0 = sym (take-append-drop next S) ∙ ap (λ t. T ++ t) z in
    let at-is : a ≡ length T + (a - next) = omega arith in
    let m : a - next ≡ a - length T = omega arith in
    let front : take a S ≡ pad T a =
    ap (λ k. take k S) at-is ∙ ap (λ t. take (length T + (a - next)) t) whole ∙ take-append-add T (replicate (length S - next) 0) (a - next)
    ∙ ap (λ t. T ++ t) (take-replicate {X = ℕ} (a - next) (length S - next) 0 (omega arith)) ∙ ap (λ k. T ++ replicate k 0) m in
    let lenF : length (take a S ++ word) ≡ a + 8 = omega (arith, length-append (take a S) word, length-take a S) in
    let past : next + (a + 8 - next) ≡ a + 8 = omega arith in
    let w8 : a + length word ≡ a + 8 = omega arith in
    let rest : drop (a + length word) S ≡ replicate (length S - next - (a + 8 - next)) 0 =
    ap (λ k. drop k S) (w8 ∙ sym past) ∙ sym (drop-drop (a + 8 - next) next S) ∙ ap (λ t. drop (a + 8 - next) t) z
    ∙ drop-replicate (a + 8 - next) (length S - next) 0 in
    let len : length new ≡ length S =
    ap length is ∙ omega (arith, length-append (take a S ++ word) (drop (a + length word) S), length-drop (a + length word) S) in
    record {
      len = len;
      front = ap (λ t. take (a + 8) t) is ∙ take_at (take a S ++ word) (drop (a + length word) S) (a + 8) lenF ∙ ap (λ t. t ++ word) front;
      behind = ap (λ t. drop (a + 8) t) is ∙ drop_at (take a S ++ word) (drop (a + length word) S) (a + 8) lenF
          ∙ rest ∙ ap (λ (k : ℕ). replicate k 0) (omega (arith, len));
    }

-- a put that is taken
pub put_goes : (h : Heading) (es : List (ℕ × ℕ)) (fs ss : List Area) (a next : ℕ)
    (S new word : List ℕ)
    → next ≤ a → a % 8 ≡ 0 → a + 8 ≤ length S → is_zero word ≡ false → IsWordWritten S new word next a
    → step (Filling h es fs ss (length S) (take next S)) (put a word)
    ≡ Ok (Filling h es fs ss (length new) (take (a + 8) new))
put_goes h es fs ss a next S new word low al fits z w =
    put_step h es fs ss (length S) a (take next S) word (omega (arith, length-take next S)) al fits z
    ∙ ap (λ k. Ok (Filling h es fs ss k (pad (take next S) a ++ word))) (sym w.len) ∙ ap (λ k. Ok (Filling h es fs ss (length new) k)) (sym w.front)

take_all : (S : List ℕ) (next : ℕ) → next ≤ length S → drop next S ≡ replicate (length S - next) 0 → pad (take next S) (length S) ≡ S
take_all S next h z =
    let lenT : length (take next S) ≡ next = omega (arith, length-take next S) in
    ap (λ k. take next S ++ replicate (length S - k) 0) lenT ∙ ap (λ t. take next S ++ t) (sym z) ∙ take-append-drop next S

-- the line `end` gives the deck with these bytes
pub end_goes : (h : Heading) (es : List (ℕ × ℕ)) (fs ss : List Area) (next : ℕ) (S : List ℕ)
    → next ≤ length S → drop next S ≡ replicate (length S - next) 0
    → step (Filling h es fs ss (length S) (take next S)) end ≡ Ok (Whole (value_of h es fs ss S))
end_goes h es fs ss next S within zeros = ap (λ b. Ok (Whole (value_of h es fs ss b))) (take_all S next within zeros)
