-- Marks, and the places that they tell of.
use Rattle.chan_walk.proofs.Names.{[], ap, arith, bit_at, Bool, BTreeMap, Entry, false, List, marks_of, marks_or_none, MarksAgree, nat_cmp, nat_tests, Place, place_at, place_number, rules, Some, sym, way_of, ℕ, ◌%◌, ◌*◌, ◌++◌, ◌<◌, ◌^◌, ◌∙◌, ◌∷◌, ◌≡◌}
use Rattle.std.proofs.Common.{w8}
use Rattle.std.specs.Int.RustNames.{bit_or}
use Rattle.std.proofs.lemmas.Nat.Bits.{bit_at_set_same, bit_at_set_other}
use Rattle.chan_walk.specs.Places.{entry_number, transfer_number}
use Rattle.chan_walk.specs.Walk.{Marks}
use Rattle.chan_walk.proofs.Theory.Lists.{has_push}
use Rattle.std.specs.BTreeMap as tree

-- ---- places and the ways in which they are entered

entry_small : (e : Entry) → entry_number e < 4
entry_small e = search rules

transfer_small : (t : Bool) → transfer_number t < 2
transfer_small t = search rules

pub way_small : (p : Place) → way_of p < 8
way_small p = omega (arith, entry_small p.entered, transfer_small p.after_transfer)

pub way_of-place_at : (a w : ℕ) → w < 8 → way_of (place_at a w) ≡ w
way_of-place_at a w h = search rules

pub place_at-way_of : (p : Place) → place_at p.address (way_of p) ≡ p
place_at-way_of p = search rules

pub same_place : (p q : Place) → p.address ≡ q.address → way_of p ≡ way_of q → p ≡ q
same_place p q a w = sym (place_at-way_of p) ∙ ap (λ z. place_at z (way_of p)) a ∙ ap (place_at q.address) w ∙ place_at-way_of q

-- places with one number are one place
pub same_number : (p q : Place) → place_number p ≡ place_number q → p ≡ q
same_number p q e = search rules

-- ---- one mark more

-- the bits at one address changed, by one bit
marks_by : (m n : BTreeMap ℕ ℕ) (q : Place) → ((a : ℕ) → (a ≡ q.address → ⊥) → marks_of n a ≡ marks_of m a)
    → ((i : ℕ) → (i ≡ way_of q → ⊥) → bit_at (marks_of n q.address) i ≡ bit_at (marks_of m q.address) i)
    → bit_at (marks_of n q.address) (way_of q) ≡ 1 → Marks m n q
marks_by m n q others bits same p = search rules

apart_keys : (a b : ℕ) → (b ≡ a → ⊥) → tree.is_at (nat_cmp a) b ≡ false
apart_keys a b d = grind (arith, nat_tests)

pub mark_put : (m n : BTreeMap ℕ ℕ) (q : Place) (w v : ℕ) → w ≡ way_of q
    → v ≡ bit_or (marks_of m q.address) (1 * 2 ^ w % 2 ^ 8) → tree.Updates nat_cmp m n q.address (Some v) → Marks m n q
mark_put m n q w v f e u =
    marks_by m n q (λ a d. ap marks_or_none (u.2 a (apart_keys q.address a d)))
    (λ i d. ap (λ z. bit_at z i) now ∙ bit_at_set_other w8 (marks_of m q.address) (way_of q) (way_small q) i d)
    (ap (λ z. bit_at z (way_of q)) now ∙ bit_at_set_same w8 (marks_of m q.address) (way_of q) (way_small q))
  where
    now : marks_of n q.address ≡ bit_or (marks_of m q.address) (1 * 2 ^ way_of q % 2 ^ 8)
    now = ap marks_or_none u.1 ∙ e ∙ ap (λ z. bit_or (marks_of m q.address) (1 * 2 ^ z % 2 ^ 8)) f

pub agrees_push : (m n : BTreeMap ℕ ℕ) (q : Place) (ps qs : List Place) → qs ≡ ps ++ q ∷ [] → MarksAgree m ps → Marks m n q → MarksAgree n qs
agrees_push m n q ps qs e a k p = search (rules, has_push)
