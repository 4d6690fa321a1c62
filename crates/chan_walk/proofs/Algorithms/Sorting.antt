-- Looks put in order of place.
use Rattle.chan_walk.proofs.Names.{[], AreDistinct, arith, Contains-permutation, eqb, get_or-map, Has, IsDistinct-IsPermutation, IsNonDecreasingBy, IsPermutation, IsPermutation-map, IsPermutation-sym, IsStrictlyIncreasing, IsStrictlyIncreasing-from_distinct, length, length-map, List, map, place_number, place_of, places_of_looks, rules, Seen, ℕ, ◌<◌, ◌↔◌, ◌∷◌, ◌≡◌}
use Rattle.std.specs.List.Sorted.{IsNonDecreasing}
use Rattle.std.proofs.lemmas.Simd.{map-map}
use Rattle.chan_walk.proofs.Algorithms.InOrder.{distinct_numbers}
use Rattle.chan_walk.proofs.Theory.Lists.{contains_has, has_contains}
use Rattle.chan_walk.proofs.Algorithms.Marks.{same_number}

-- the number of a look's place
abbrev pub number : Seen → ℕ
number l = place_number l.place

numbers_of_places : (ls : List Seen) → map place_number (places_of_looks ls) ≡ map number ls
numbers_of_places ls = map-map place_number place_of ls

pub non_decreasing : {X : Type 0} (n : X → ℕ) (xs : List X) → IsNonDecreasingBy n xs → IsNonDecreasing (map n xs)
non_decreasing n [] up i j d le lt = absurd (omega arith)
non_decreasing n (x ∷ xs) up i j d le lt =
    let e : length (map n (x ∷ xs)) ≡ length (x ∷ xs) = length-map (x ∷ xs) n in
    let below : j < length (x ∷ xs) = omega arith in
    let a = get_or-map n (x ∷ xs) i x d (omega arith) in
    let b = get_or-map n (x ∷ xs) j x d below in
    let h = up i j x le below in
    omega (arith, a, b, h)

pub eqb_flips : (x y : ℕ) → eqb x y ≡ eqb y x
eqb_flips x y = search rules

-- sorted by the numbers of their places, and no place twice
pub increasing : (ls ms : List Seen) → IsNonDecreasingBy number ms → IsPermutation ls ms → AreDistinct (places_of_looks ls)
    → IsStrictlyIncreasing (map place_number (places_of_looks ms))
increasing ls ms up moved distinct =
    search (
      rules,
      numbers_of_places,
      distinct_numbers place_number same_number,
      IsDistinct-IsPermutation,
      eqb_flips,
      IsPermutation-map,
      IsStrictlyIncreasing-from_distinct,
      non_decreasing number,
    )

pub same_elements : {X : Type 0} (xs ys : List X) (x : X) → IsPermutation xs ys → Has ys x ↔ Has xs x
same_elements xs ys x moved = search (rules, contains_has, Contains-permutation, IsPermutation-sym, has_contains)
