-- The least byte or cylinder of lists for which something holds, element by element.
use Rattle.chan_needs.proofs.Names.{[], and_from, and_parts, Area, AreExactly, arith, both_ways, cases_lt, end_of, Extent, false, get_or, has_cylinder, inl, inr, IsByteOf, IsLeastOrNone, IsMerged, le-leb, least_same, leb-true, length, lesser_of, lies_in, lies_in-cases, lies_in-first, lies_in-nil, lies_in-rest, List, map, map-append, nat_le, None, Option, or_cases, or_left, or_right, pair, refl, rules, Some, subst, sym, take, take_all, take_more, true, ℕ, ◌&&◌, ◌++◌, ◌+◌, ◌<◌, ◌↔◌, ◌∷◌, ◌≡◌, ◌≢◌, ◌≤◌, ◌⊎◌}
use Rattle.std.proofs.Common.{◌||◌}
use Rattle.std.proofs.lemmas.Bool.{false_from_ne_true, ne_eqb}
use Rattle.std.proofs.lemmas.List.Folds.{list_any-append}
use Rattle.chan_needs.proofs.Holding.{nowhere}
use Rattle.std.specs.List.{All}
use Rattle.std.proofs.lemmas.List.Elements.{All-append, All-cons, All-nil}
use Rattle.chan_areas.specs.Merged.{EndsBelow}
use Rattle.chan_areas.proofs.Merging.{lies_in-append, merged_push}
use Rattle.chan_areas.proofs.Searching.{merged_order}
use Rattle.chan_needs.specs.Row.{besides}

-- ---- the lesser of two leasts

least_either : (P Q R : ℕ → Type 0) → ((b : ℕ) → R b → P b ⊎ Q b) → ((b : ℕ) → P b → R b) → ((b : ℕ) → Q b → R b)
    → (o p : Option ℕ) → IsLeastOrNone P o → IsLeastOrNone Q p → IsLeastOrNone R (lesser_of o p)
least_either P Q R split one other None None h k = search (rules, split)
least_either P Q R split one other None (Some n) h k = search (rules, split, other)
least_either P Q R split one other (Some m) None h k = search (rules, split, one)
least_either P Q R split one other (Some m) (Some n) h k = search (rules, split, one, other, cases_lt)

-- ---- element by element

-- the least so far, and that of one element more
least_more : (Old Here New P : ℕ → Type 0) (o p q : Option ℕ) → ((b : ℕ) → New b ↔ (Old b ⊎ Here b)) → q ≡ lesser_of o p
    → IsLeastOrNone (λ b. Old b × P b) o → IsLeastOrNone (λ b. Here b × P b) p → IsLeastOrNone (λ b. New b × P b) q
least_more Old Here New P o p q more e h k =
    subst (IsLeastOrNone (λ b. New b × P b)) (sym e)
    (least_either (λ b. Old b × P b) (λ b. Here b × P b) (λ b. New b × P b)
    (λ b r. elim ((more b).0 r.0) [
      | inl x ↦ inl (x, r.1)
      | inr x ↦ inr (x, r.1)
    ])
    (λ b r. ((more b).1 (inl r.0), r.1))
    (λ b r. ((more b).1 (inr r.0), r.1))
    o p h k)

pub areas_more : (xs : List Area) (i b : ℕ) → i < length xs
    → (lies_in (take (i + 1) xs) b ≡ true) ↔ ((lies_in (take i xs) b ≡ true) ⊎ IsByteOf (get_or xs i nowhere) b)
areas_more xs i b l =
    rw (take_more xs i nowhere l) (search (rules, lies_in-append, lies_in-cases, lies_in-first, or_cases, or_left, or_right, lies_in-nil, both_ways))

abbrev pub InRun : ℕ × ℕ → ℕ → Type 0
InRun r n = (r.0 ≤ n) × (n ≤ r.1)

has_cylinder-append : (xs ys : List (ℕ × ℕ)) (n : ℕ) → has_cylinder (xs ++ ys) n ≡ (has_cylinder xs n || has_cylinder ys n)
unfolding has_cylinder
has_cylinder-append xs ys n = list_any-append (λ r. nat_le r.0 n && nat_le n r.1) xs ys

in_run : (r : ℕ × ℕ) (n : ℕ) → (has_cylinder (r ∷ []) n ≡ true) ↔ InRun r n
unfolding has_cylinder
in_run r n = search (rules, or_cases, or_left, and_from, and_parts, le-leb, leb-true)

-- no run
abbrev no_run : Extent
no_run = record { first = 0; last = 0 }

runs_more : (xs : List Extent) (i n : ℕ) → i < length xs
    → (has_cylinder (map pair (take (i + 1) xs)) n ≡ true) ↔ ((has_cylinder (map pair (take i xs)) n ≡ true) ⊎ InRun (pair (get_or xs i no_run)) n)
runs_more xs i n l =
    rw (take_more xs i no_run l, map-append pair (take i xs) (get_or xs i no_run ∷ []))
    (search (rules, has_cylinder-append, in_run, or_cases, or_left, or_right))

pub least_area : (xs : List Area) (i : ℕ) (P : ℕ → Type 0) (o p q : Option ℕ) → i < length xs
    → q ≡ lesser_of o p → IsLeastOrNone (λ b. (lies_in (take i xs) b ≡ true) × P b) o
    → IsLeastOrNone (λ b. IsByteOf (get_or xs i nowhere) b × P b) p → IsLeastOrNone (λ b. (lies_in (take (i + 1) xs) b ≡ true) × P b) q
least_area xs i P o p q l =
    least_more (λ b. lies_in (take i xs) b ≡ true) (IsByteOf (get_or xs i nowhere)) (λ b. lies_in (take (i + 1) xs) b ≡ true) P o p q (λ b. areas_more xs i b l)

pub least_run : (xs : List Extent) (i : ℕ) (P : ℕ → Type 0) (o p q : Option ℕ) → i < length xs → q ≡ lesser_of o p
    → IsLeastOrNone (λ n. (has_cylinder (map pair (take i xs)) n ≡ true) × P n) o → IsLeastOrNone (λ n. InRun (pair (get_or xs i no_run)) n × P n) p
    → IsLeastOrNone (λ n. (has_cylinder (map pair (take (i + 1) xs)) n ≡ true) × P n) q
least_run xs i P o p q l =
    least_more (λ n. has_cylinder (map pair (take i xs)) n ≡ true) (InRun (pair (get_or xs i no_run)))
    (λ n. has_cylinder (map pair (take (i + 1) xs)) n ≡ true) P o p q (λ n. runs_more xs i n l)

-- before the first element, and after the last
pub no_byte : (b : ℕ) → lies_in [] b ≡ true → ⊥
no_byte b h = both_ways _ (lies_in-nil b) h

pub least_in_areas : (xs : List Area) (i : ℕ) (P : ℕ → Type 0) (o : Option ℕ) → length xs ≤ i
    → IsLeastOrNone (λ b. (lies_in (take i xs) b ≡ true) × P b) o → IsLeastOrNone (λ b. (lies_in xs b ≡ true) × P b) o
least_in_areas xs i P o l = subst (λ ys. IsLeastOrNone (λ b. (lies_in ys b ≡ true) × P b) o) (take_all i xs l)

pub no_cylinder : (n : ℕ) → has_cylinder [] n ≡ true → ⊥
unfolding has_cylinder
no_cylinder n h = cc

pub least_in_runs : (xs : List Extent) (i : ℕ) (P : ℕ → Type 0) (o : Option ℕ) → length xs ≤ i
    → IsLeastOrNone (λ n. (has_cylinder (map pair (take i xs)) n ≡ true) × P n) o → IsLeastOrNone (λ n. (has_cylinder (map pair xs) n ≡ true) × P n) o
least_in_runs xs i P o l = subst (λ (ys : List Extent). IsLeastOrNone (λ n. (has_cylinder (map pair ys) n ≡ true) × P n) o) (take_all i xs l)

-- ---- an area beside a list

in_either : (a : Area) (areas : List Area) (b : ℕ) → a.len ≢ 0
    → (lies_in (besides a areas) b ≡ true) ↔ (IsByteOf a b ⊎ (lies_in areas b ≡ true))
in_either a areas b filled = rw (ne_eqb a.len 0 filled) (search (rules, lies_in-cases, lies_in-first, lies_in-rest))

-- the least byte of an area that isn't empty, and of some others
pub least_besides : (a : Area) (areas : List Area) (P : ℕ → Type 0) (o p : Option ℕ) → a.len ≢ 0
    → IsLeastOrNone (λ b. IsByteOf a b × P b) o → IsLeastOrNone (λ b. (lies_in areas b ≡ true) × P b) p
    → IsLeastOrNone (λ b. (lies_in (besides a areas) b ≡ true) × P b) (lesser_of o p)
least_besides a areas P o p filled =
    least_more (λ b. IsByteOf a b) (λ b. lies_in areas b ≡ true) (λ b. lies_in (besides a areas) b ≡ true) P o p (lesser_of o p)
    (λ b. in_either a areas b filled) refl

-- the same byte is shared the other way round
pub least_swapped : (P Q : ℕ → Type 0) (o : Option ℕ) → IsLeastOrNone (λ b. P b × Q b) o → IsLeastOrNone (λ b. Q b × P b) o
least_swapped P Q o = least_same _ _ o (λ b h. (h.1, h.0)) (λ b h. (h.1, h.0))

-- ---- merged so far

-- the areas before i are merged and end before n; if all areas are merged, area i begins at n or above
pub record AreMergedBefore (xs : List Area) (i n : ℕ) : Type 0 where
  pub merged : IsMerged (take i xs)
  pub before : All (EndsBelow n) (take i xs)
  pub begins : IsMerged xs → i < length xs → n ≤ (get_or xs i nowhere).start

pub merged_first : (xs : List Area) → AreMergedBefore xs 0 0
merged_first xs = record { merged = tt; before = λ k d l. absurd (omega arith); begins = λ m l. omega arith }

pub merged_next : (xs : List Area) (i n m : ℕ) → i < length xs → 0 < (get_or xs i nowhere).len → n ≤ (get_or xs i nowhere).start
    → m ≡ end_of (get_or xs i nowhere) + 1 → AreMergedBefore xs i n → AreMergedBefore xs (i + 1) m
merged_next xs i n m l filled begun e h = record {
  merged =
      subst IsMerged (sym (take_more xs i nowhere l))
      (merged_push (take i xs) (get_or xs i nowhere) h.merged (λ k d b. let f = h.before k d b in omega arith) filled);
  before =
      subst (All (EndsBelow m)) (sym (take_more xs i nowhere l))
      (All-append (EndsBelow m) (take i xs) (get_or xs i nowhere ∷ []) (λ k d b. let f = h.before k d b in omega arith)
      (All-cons (EndsBelow m) (get_or xs i nowhere) [] (omega arith) (All-nil (EndsBelow m))));
  begins = λ all k. let f = merged_order xs i (i + 1) nowhere all (omega arith) k in omega arith;
}

pub merged_all : (xs : List Area) (i n : ℕ) → length xs ≤ i → AreMergedBefore xs i n → IsMerged xs
merged_all xs i n l h = subst IsMerged (take_all i xs l) h.merged

pub ruleset merged_rules = (merged_first, merged_all)

-- ---- what was lent, as far as it lies in storage

-- a byte that lies in none of the merged areas isn't one of storage that was lent, and the other way round
pub least_clipped : (n : ℕ) (areas lent merged : List Area) → AreExactly (λ b. (b < n) × (lies_in lent b ≡ true)) merged
    → (o : Option ℕ) → IsLeastOrNone (λ b. (lies_in areas b ≡ true) × (lies_in merged b ≡ false)) o
    → IsLeastOrNone (λ b. (lies_in areas b ≡ true) × ((b < n) × (lies_in lent b ≡ true) → ⊥)) o
least_clipped n areas lent merged are o least =
    least_same _ _ o
    (λ b m. (m.0, λ h. both_ways (lies_in merged b) m.1 ((are.bytes b).1 h)))
    (λ b m. (m.0, false_from_ne_true (lies_in merged b) (λ h. m.1 ((are.bytes b).0 h))))
    least
