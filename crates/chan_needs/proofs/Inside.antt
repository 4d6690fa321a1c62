-- What a program keeps lies in storage, and how many bytes that is.
use Rattle.chan_needs.proofs.Names.{[], All, All-cons, All-head, All-nil, All-tail, and_parts, ap, AreExactly, IsKept, Area, arith, bytes_in, ccw_of, clear_check, data_in_storage, end_of, get_or, Has, inl, inr, is_fresh, is_inside, IsClear, IsGuarded, IsInside, IsMerged, Job, leb-true, length, length-append, lies_in, lies_in-first, lies_in-rest, List, mask_is_no_transfer, open_job, Place, refl, Stands, storage_of, subst, suc, take, take_all, take_more, total_len, true, zero, ℕ, ◌++◌, ◌+◌, ◌-◌, ◌<◌, ◌∙◌, ◌∷◌, ◌≡◌, ◌≤◌, ◌⊎◌}
use Rattle.chan_walk.specs.Argument.{argument_addresses}
use Rattle.chan_walk.specs.Guarded.{IsMaskByte, IsSeekByte}
use Rattle.chan_walk.proofs.Algorithms.Following.{argument_below}
use Rattle.chan_walk.proofs.Theory.Checks.{passed}
use Rattle.ccw_core.specs.Ccw.{has_count}
use Rattle.std.proofs.lemmas.Bool.{ltb-true}
use Rattle.chan_needs.proofs.Copied.{bytes_of, length_of}
use Rattle.chan_needs.proofs.Holding.{nowhere}

-- ---- a guarded byte is one of storage

stands_inside : (s : List ℕ) (a b : ℕ) → Stands s a → b < a + 8 → b < length s
unfolding is_inside
stands_inside s a b h l = let fits = leb-true _ _ h.1 in omega (arith, fits, l)

has_below : (n : ℕ) (xs : List ℕ) (b : ℕ) → ((i : ℕ) → get_or xs i 0 < n) → Has xs b → b < n
has_below n [] b below h = absurd h
has_below n (x ∷ xs) b below (inl e) = subst (λ y. y < n) e (below 0)
has_below n (x ∷ xs) b below (inr h) = has_below n xs b (λ i. below (suc i)) h

mask_inside : (j : Job) (p : Place) (b : ℕ) → IsClear j p → IsMaskByte (storage_of j) p b → b < length (storage_of j)
unfolding has_count
mask_inside j p b clear m =
    let checked = clear_check j p clear in
    let stays = mask_is_no_transfer (ccw_of j p) (and_parts (is_fresh p.entered) _ m.sets).1 in
    let fits = data_in_storage (storage_of j) p (ccw_of j p) checked refl stays in
    let some = ltb-true 0 _ (passed (storage_of j) p checked stays).counted in
    let at = m.at in
    omega (arith, fits, some, at)

guarded_inside : (j : Job) (b : ℕ) → IsGuarded j b → b < length (storage_of j)
guarded_inside j b (inl g) = stands_inside (storage_of j) g.place.address b g.stands g.below
guarded_inside j b (inr g) = go g.takes
  where
    s : List ℕ
    s = storage_of j

    go : IsSeekByte s g.place b ⊎ IsMaskByte s g.place b → b < length s
    go (inl k) = has_below (length s) (argument_addresses s k.chain) b (argument_below s 6 g.place.address k.chain _ k.is_chain refl) k.has
    go (inr m) = mask_inside j g.place b g.clear m

-- so each area of a merged list of such bytes lies in storage
merged_inside : (s : List ℕ) (areas : List Area) → IsMerged areas → ((b : ℕ) → lies_in areas b ≡ true → b < length s) → All (IsInside s) areas
merged_inside s [] m below = All-nil (IsInside s)
merged_inside s (a ∷ areas) m below =
    let some = m.0 in
    let last : a.start + (a.len - 1) < length s = below _ (lies_in-first a areas _ (omega (arith, some), omega (arith, some))) in
    All-cons (IsInside s) a areas (omega (arith, last, some)) (merged_inside s areas m.2 (λ b h. below b (lies_in-rest a areas b h)))

pub kept_inside : (j : Job) (areas : List Area) → AreExactly (IsKept j) areas → All (IsInside (storage_of j)) areas
kept_inside j areas are = merged_inside (storage_of j) areas are.merged (λ b h. guarded_inside (open_job j) b ((are.bytes b).0 h))

-- ---- how many bytes areas have together

-- those of areas in storage are copied
pub total_copied : (s : List ℕ) (areas : List Area) → All (IsInside s) areas → length (bytes_in s areas) ≡ total_len areas
total_copied s [] h = refl
total_copied s (a ∷ areas) h =
    let one = length_of s a (All-head (IsInside s) a areas h) in
    let more = total_copied s areas (All-tail (IsInside s) a areas h) in
    let all = length-append (bytes_of s a) (bytes_in s areas) in
    omega (arith, one, more, all)

total-append : (xs ys : List Area) → total_len (xs ++ ys) ≡ total_len xs + total_len ys
total-append [] ys = omega arith
total-append (x ∷ xs) ys = let more = total-append xs ys in omega (arith, more)

-- merged areas are so far apart that their sum stays below the end of the last
total_below : (n : ℕ) (x : Area) (xs : List Area) (i : ℕ) → n ≤ x.start → IsMerged (x ∷ xs)
    → i < length (x ∷ xs) → n + total_len (take (suc i) (x ∷ xs)) ≤ end_of (get_or (x ∷ xs) i nowhere)
total_below n x xs zero first m l = omega (arith, first)
total_below n x [] (suc i) first m l = absurd (omega (arith, l))
total_below n x (y ∷ xs) (suc i) first m l =
    let next = m.1.0 in
    let more = total_below (end_of x) y xs i (omega (arith, next)) m.2 (omega (arith, l)) in
    omega (arith, more, first)

pub total_next : (xs : List Area) (i : ℕ) → i < length xs → total_len (take (i + 1) xs) ≡ total_len (take i xs) + (get_or xs i nowhere).len
total_next xs i l =
    ap total_len (take_more xs i nowhere l) ∙ total-append (take i xs) (get_or xs i nowhere ∷ [])
    ∙ (let none : (get_or xs i nowhere).len + 0 ≡ (get_or xs i nowhere).len = omega arith in ap (λ n. total_len (take i xs) + n) none)

pub total_fits : (xs : List Area) (i : ℕ) → IsMerged xs → i < length xs → total_len (take i xs) + (get_or xs i nowhere).len ≤ end_of (get_or xs i nowhere)
total_fits [] i m l = absurd (omega (arith, l))
total_fits (x ∷ xs) i m l =
    let one : i + 1 ≡ suc i = omega arith in
    let sum = total_next (x ∷ xs) i l in
    let below = total_below 0 x xs i (omega arith) m l in
    let same = ap (λ n. total_len (take n (x ∷ xs))) one in
    omega (arith, sum, below, same)

pub none_total : 0 ≡ total_len []
none_total = refl

pub all_total : (xs : List Area) (i n : ℕ) → length xs ≤ i → n ≡ total_len (take i xs) → n ≡ total_len xs
all_total xs i n l e = e ∙ ap total_len (take_all i xs l)
