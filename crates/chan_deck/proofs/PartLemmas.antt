-- The parts of a deck: its areas, and the storage of an image.
use Rattle.chan_deck.proofs.Names.{[], all_append, AllByRecursion, ap, append_assoc, AreExtents, arith, drop, drop-replicate, Err, get_or, HasLimit, value_of_parts, is_mask, IsByte, IsDeck, length, length-append, length-replicate, List, next_multiple_of, Ok, refl, replicate-append-replicate, Result, STORAGE_LIMIT, storage_with, suc, take, take-replicate, true, zero, zeros, ℕ, ◌%◌, ◌*◌, ◌++◌, ◌+◌, ◌-◌, ◌/◌, ◌<◌, ◌∙◌, ◌∷◌, ◌≡◌, ◌≤◌}
use Rattle.std.proofs.Common.{IfOk, OnOk}
use Rattle.chan_deck.specs.PartsValue.{HasShortAddresses, version_with}
use Rattle.chan_deck.specs.declared.parts.Parts.{Parts}
use Rattle.chan_deck.proofs.StepLemmas.{bytes_pad, bytes_zeros}
use Rattle.chan_deck.proofs.WriteLemmas.{length_behind}

-- an image that was put into zeros, with what stands before and behind it
pub storage_is : (at : ℕ) (image bytes : List ℕ)
    → bytes ≡ (take at (zeros (next_multiple_of (at + length image) 8)) ++ image)
    ++ drop (at + length image) (zeros (next_multiple_of (at + length image) 8))
    → bytes ≡ storage_with at image
storage_is at image bytes e =
    let n = at + length image in
    let len = next_multiple_of n 8 in
    let before : take at (zeros len) ≡ zeros at = take-replicate at len 0 (omega arith) in
    let behind : drop n (zeros len) ≡ zeros (len - n) = drop-replicate n len 0 in
    e ∙ rw (before, behind, length_behind at image) refl

-- what stands before the doublewords of an image, and these, are its storage
pub doublewords_are : (at : ℕ) (image : List ℕ)
    → zeros (8 * (at / 8)) ++ storage_with (at % 8) image ≡ storage_with at image
doublewords_are at image =
    let b = at % 8 in
    let n = length image in
    let front : zeros (8 * (at / 8)) ++ zeros b ≡ zeros at = replicate-append-replicate (8 * (at / 8)) b 0 ∙ ap (λ (m : ℕ). zeros m) (omega arith) in
    let end : next_multiple_of (b + n) 8 - (b + n) ≡ next_multiple_of (at + n) 8 - (at + n) = omega arith in
    rw (length_behind at image, length_behind b image, end, ← append_assoc, ← append_assoc, front) refl

pub all_bytes : (bytes : List ℕ) → ((i : ℕ) → get_or bytes i 0 < 256) → AllByRecursion IsByte bytes
all_bytes [] h = tt
all_bytes (b ∷ bytes) h = (h zero, all_bytes bytes (λ i. h (suc i)))

-- how long storage is in which an image begins at an address
pub length_storage : (at : ℕ) (image : List ℕ)
    → length (storage_with at image) ≡ next_multiple_of (at + length image) 8
length_storage at image = simp (length-append, length-replicate) (omega arith)

-- parts whose image isn't too long, and whose numbers have six digits, make a deck
pub parts_deck : (p : Parts) → p.at + length p.image.now ≤ STORAGE_LIMIT → HasShortAddresses p
    → HasLimit (version_with p.limit) → IsByte p.mask × (is_mask p.mask ≡ true)
    → AreExtents p.extents.now → AllByRecursion IsByte p.image.now → IsDeck (value_of_parts p)
parts_deck p short right limited masked cylinders bytes =
    let len = length_storage p.at p.image.now in
    let front = zeros p.at ++ p.image.now in
    record {
      limit = limited;
      mask = masked;
      start = right.0;
      extents = cylinders;
      fetch = right.1;
      store = right.2;
      size = omega (arith, len, short);
      whole = omega (arith, len);
      bytes = bytes_pad front (next_multiple_of (length front) 8) (all_append IsByte (zeros p.at) p.image.now (bytes_zeros p.at) bytes);
    }

-- what follows from four facts of a value
pub from_facts : {T E A B C : Type 0} {P Q : T → Type 0} (r : Result T E) → IfOk r P → OnOk r A
    → OnOk r B → OnOk r C → ((x : T) → P x → A → B → C → Q x) → IfOk r Q
from_facts (Ok x) p a b c f = f x p a b c
from_facts (Err e) p a b c f = tt

-- what holds holds where a value came
pub on_ok : {T E A : Type 0} (r : Result T E) → A → OnOk r A
on_ok (Ok t) a = a
on_ok (Err e) a = tt

-- storage in which an image ends isn't too large
pub storage_fits : (at : ℕ) (image storage : List ℕ) → storage ≡ storage_with at image
    → at + length image ≤ STORAGE_LIMIT → length storage ≤ STORAGE_LIMIT
storage_fits at image storage is short = omega (arith, ap length is ∙ length_storage at image, short)
