-- A deck's lines are read as that deck, and whatever has been read can go on to be a deck.
use Rattle.chan_deck.proofs.Names.{[], AllByRecursion, and_parts, and_then, ap, append-nil, append_assoc, Area, AreExtents, arith, Cause, cond_both, D2311, Device, device, drop, end, eqb-true, Err, extent, extent_of, false, fetch, Filling, HasForm, HasLimit, header, header_of, Heading, DeckValue, value_of, is_mask, is_size, is_zero, IsDeck, IsExtent, Item, items, LAST_CYLINDER, le-leb, le-ltb, length, length-append, length-drop, length-take, limit, limit_line, List, Listing, lit<, map, mask, Masked, Named, Ok, OnDevice, One, Opening, pad, put, puts, refl, replicate, replicate-append-replicate, Result, run, start, Started, State, step, storage, STORAGE_LIMIT, store, subst, suc, sym, take, take-append-drop, true, Two, Version, Whole, zero, ℕ, ◌%◌, ◌*◌, ◌++◌, ◌+◌, ◌-◌, ◌/◌, ◌==◌, ◌∙◌, ◌∷◌, ◌≡◌, ◌≤◌}
use Rattle.chan_deck.proofs.PutLemmas.{length_pad}
use Rattle.chan_deck.proofs.LineRefusals.{good_size}
use Rattle.chan_deck.proofs.StepLemmas.{said, IsState, step-says}
use Rattle.chan_deck.specs.declared.version.VersionNumber.TheVariants as numbers

-- ---- runs

after : (r : Result State Cause) (f g : State → Result State Cause) (k : State → Result State Cause)
    → ((t : State) → g t ≡ and_then (f t) k) → and_then r g ≡ and_then (and_then r f) k
after (Ok s) f g k h = h s
after (Err c) f g k h = refl

-- a run of two parts
pub run-append : (s : State) (is js : List Item) → run s (is ++ js) ≡ and_then (run s is) (λ t. run t js)
run-append s [] js = refl
run-append s (i ∷ is) js = after (step s i) (λ t. run t is) (λ t. run t (is ++ js)) (λ t. run t js) (λ t. run-append t is js)

pub and_then_ok : (r : Result State Cause) (f : State → Result State Cause) (t : State) → and_then r f ≡ Ok t → (s : State) × (r ≡ Ok s) × (f s ≡ Ok t)
and_then_ok (Ok s) f t e = (s, refl, e)
and_then_ok (Err c) f t e = absurd cc

-- a run leads to a state, and says its lines more
pub run-says : (s t : State) (js : List Item) → IsState s → AllByRecursion HasForm js → run s js ≡ Ok t → IsState t × (said t ≡ said s ++ js)
run-says s t [] is forms e =
    let same : s ≡ t = cc in
    subst (λ x. IsState x × (said x ≡ said s ++ [])) same (is, sym (append-nil (said s)))
run-says s t (i ∷ js) is forms e =
    let r = and_then_ok (step s i) (λ q. run q js) t e in
    let one = step-says s r.0 i is forms.0 r.1 in
    let more = run-says r.0 t js one.0 forms.1 r.2 in
    (more.0, more.1 ∙ ap (λ x. x ++ js) one.1 ∙ append_assoc (said s) (i ∷ []) js)

-- ---- lists

over_extents : (h : Heading) (es xs : List (ℕ × ℕ)) → AllByRecursion IsExtent xs → run (Listing h es [] []) (map extent_of xs) ≡ Ok (Listing h (es ++ xs) [] [])
over_extents h es [] all = rw append-nil refl
over_extents h es (x ∷ xs) all =
    rw (le-ltb x.1 x.0 all.0.0, le-ltb LAST_CYLINDER x.1 all.0.1)
    (over_extents h (es ++ x ∷ []) xs all.1 ∙ ap (λ t. Ok (Listing h t [] [])) (append_assoc es (x ∷ []) xs))

over_fetches : (h : Heading) (e : ℕ × ℕ) (es : List (ℕ × ℕ)) (fs xs : List Area)
    → run (Listing h (e ∷ es) fs []) (map fetch xs) ≡ Ok (Listing h (e ∷ es) (fs ++ xs) [])
over_fetches h e es fs [] = rw append-nil refl
over_fetches h e es fs (x ∷ xs) = over_fetches h e es (fs ++ x ∷ []) xs ∙ ap (λ t. Ok (Listing h (e ∷ es) t [])) (append_assoc fs (x ∷ []) xs)

over_stores : (h : Heading) (e : ℕ × ℕ) (es : List (ℕ × ℕ)) (fs ss xs : List Area)
    → run (Listing h (e ∷ es) fs ss) (map store xs) ≡ Ok (Listing h (e ∷ es) fs (ss ++ xs))
over_stores h e es fs ss [] = rw append-nil refl
over_stores h e es fs ss (x ∷ xs) = over_stores h e es fs (ss ++ x ∷ []) xs ∙ ap (λ t. Ok (Listing h (e ∷ es) fs t)) (append_assoc ss (x ∷ []) xs)

over_lists : (h : Heading) (es : List (ℕ × ℕ)) (fs ss : List Area) → AreExtents es
    → run (Listing h [] [] []) (map extent_of es ++ map fetch fs ++ map store ss) ≡ Ok (Listing h es fs ss)
over_lists h [] fs ss are = absurd (omega (arith, are.0))
over_lists h (e ∷ es) fs ss are =
    let xs = map extent_of (e ∷ es) in
    let fetched : run (Listing h [] [] []) (xs ++ map fetch fs) ≡ Ok (Listing h (e ∷ es) fs []) =
    run-append (Listing h [] [] []) xs (map fetch fs)
    ∙ ap (λ r. and_then r (λ t. run t (map fetch fs))) (over_extents h [] (e ∷ es) are.1) ∙ over_fetches h e es [] fs in
    run-append (Listing h [] [] []) (xs ++ map fetch fs) (map store ss) ∙ ap (λ r. and_then r (λ t. run t (map store ss))) fetched
    ∙ over_stores h e es fs [] ss

-- ---- puts

pub zeros_is : (bytes : List ℕ) → is_zero bytes ≡ true → bytes ≡ replicate (length bytes) 0
zeros_is [] h = refl
zeros_is (b ∷ bytes) h =
    let t = and_parts (b == 0) (is_zero bytes) h in
    let z : b ≡ 0 = eqb-true b 0 t.0 in
    ap (λ (x : ℕ). x ∷ bytes) z ∙ ap (λ (t : List ℕ). 0 ∷ t) (zeros_is bytes t.1)

pad_more : (front : List ℕ) (at k : ℕ) → length front ≤ at → pad front (at + k) ≡ pad front at ++ replicate k 0
pad_more front at k h =
    let m : at + k - length front ≡ at - length front + k = omega arith in
    rw (m, ← replicate-append-replicate {A = ℕ} (at - length front) k 0) (sym (append_assoc front (replicate (at - length front) 0) (replicate k 0)))

pad_same : (front : List ℕ) (n : ℕ) → length front ≡ n → pad front n ≡ front
pad_same front n h =
    let z : n - length front ≡ 0 = omega arith in
    rw z (append-nil front)

pub put_step : (h : Heading) (es : List (ℕ × ℕ)) (fs ss : List Area) (size at : ℕ)
    (front word : List ℕ)
    → length front ≤ at → at % 8 ≡ 0 → at + 8 ≤ size → is_zero word ≡ false
    → step (Filling h es fs ss size front) (put at word)
    ≡ Ok (Filling h es fs ss size (pad front at ++ word))
put_step h es fs ss size at front word low al fits z = rw (al, le-leb (length front) at low, le-leb (at + 8) size fits, z) refl

over_puts : (h : Heading) (es : List (ℕ × ℕ)) (fs ss : List Area) (size n at : ℕ)
    (front bytes : List ℕ)
    → length front ≤ at → at % 8 ≡ 0 → length bytes ≡ 8 * n → at + 8 * n ≡ size
    → (full : List ℕ)
    × (run (Filling h es fs ss size front) (puts n at bytes) ≡ Ok (Filling h es fs ss size full))
    × (pad full size ≡ pad front at ++ bytes)
unfolding puts
over_puts h es fs ss size zero at front [] low al len is = (front, refl, ap (λ k. pad front k) (omega (arith, is)) ∙ sym (append-nil (pad front at)))
over_puts h es fs ss size zero at front (b ∷ bytes) low al len is = absurd (omega arith)
over_puts h es fs ss size (suc n) at front bytes low al len is =
    let eight : length (take 8 bytes) ≡ 8 = omega (arith, length-take 8 bytes) in
    let rest : length (drop 8 bytes) ≡ 8 * n = omega (arith, length-drop 8 bytes) in
    let whole = take-append-drop 8 bytes in
    let rest_puts = puts n (at + 8) (drop 8 bytes) in
    cond_both (is_zero (take 8 bytes)) rest_puts (put at (take 8 bytes) ∷ rest_puts)
    (λ is. (full : List ℕ) × (run (Filling h es fs ss size front) is ≡ Ok (Filling h es fs ss size full)) × (pad full size ≡ pad front at ++ bytes))
    (λ z.
    let r = over_puts h es fs ss size n (at + 8) front (drop 8 bytes) (omega arith) (omega arith) rest (omega arith) in
    let zeros : replicate 8 0 ≡ take 8 bytes = ap (λ (k : ℕ). replicate k 0) (sym eight) ∙ sym (zeros_is (take 8 bytes) z) in
    (r.0, r.1, r.2 ∙ rw (pad_more front at 8 low, zeros, append_assoc, whole) refl))
    (λ z.
    let len1 : length (pad front at ++ take 8 bytes) ≡ at + 8 = omega (arith, length-append (pad front at) (take 8 bytes), length_pad front at low) in
    let r = over_puts h es fs ss size n (at + 8) (pad front at ++ take 8 bytes) (drop 8 bytes) (omega arith) (omega arith) rest (omega arith) in
    let one = put_step h es fs ss size at front (take 8 bytes) low al (omega arith) z in
    (r.0, ap (λ q. and_then q (λ t. run t rest_puts)) one ∙ r.1, r.2 ∙ rw (pad_same (pad front at ++ take 8 bytes) (at + 8) len1, append_assoc, whole) refl))

-- ---- the whole deck

-- the lines of the heading lead to the lists
by_version : (x : Version) (v : Device) (m a : ℕ) (more : List Item) → HasLimit x → is_mask m ≡ true
    → run Opening (header (header_of x) ∷ device v ∷ mask m ∷ start a ∷ limit_line x ++ more)
    ≡ run (Listing (record { version = x; device = v; mask = m; start = a }) [] [] []) more
by_version One v m a more limited is = rw is refl
by_version (Two n) v m a more limited is = rw (is, le-leb 1 n limited.0, le-leb n 65536 limited.1) refl

-- a deck's lines are read as that deck
pub reads_deck : (d : DeckValue) → IsDeck d → run Opening (items d) ≡ Ok (Whole d)
reads_deck d is =
    let h : Heading = record { version = d.version; device = d.device; mask = d.mask; start = d.start } in
    let size = length d.storage in
    let P = puts (size / 8) 0 d.storage in
    let E = map extent_of d.extents in
    let F = map fetch d.fetch in
    let S = map store d.store in
    let filled = over_puts h d.extents d.fetch d.store size (size / 8) 0 [] d.storage (omega arith) refl (omega (arith, is.whole)) (omega (arith, is.whole)) in
    let right : is_size size ≡ true = rw (is.whole, le-leb size STORAGE_LIMIT is.size) refl in
    let full : pad filled.0 size ≡ d.storage = filled.2 in
    let H = header (header_of d.version) ∷ device d.device ∷ mask d.mask ∷ start d.start ∷ limit_line d.version in
    let parts : items d ≡ H ++ ((E ++ F ++ S) ++ storage size ∷ P ++ end ∷ []) = simp append_assoc in
    ap (λ t. run Opening t) parts ∙ by_version d.version d.device d.mask d.start ((E ++ F ++ S) ++ storage size ∷ P ++ end ∷ []) is.limit is.mask.1
    ∙ run-append (Listing h [] [] []) ((E ++ F ++ S) ++ storage size ∷ P) (end ∷ [])
    ∙ ap (λ r. and_then r (λ t. run t (end ∷ []))) (run-append (Listing h [] [] []) (E ++ F ++ S) (storage size ∷ P)
    ∙ ap (λ r. and_then r (λ t. run t (storage size ∷ P))) (over_lists h d.extents d.fetch d.store is.extents)
    ∙ ap (λ r. and_then r (λ t. run t P)) (good_size h d.fetch d.store d.extents size is.extents.0 right)
    ∙ filled.1)
    ∙ ap (λ b. Ok (Whole (value_of h d.extents d.fetch d.store b))) full

-- ---- what has been read can go on

-- an extent, the storage and the end, which make a deck of each heading
abbrev last_lines : List Item
last_lines = extent 0 0 ∷ storage 0 ∷ end ∷ []

last_form : AllByRecursion HasForm last_lines
last_form = ((lit< tt, lit< tt), (lit< tt, (tt, tt)))

-- some more lines make a deck of it
pub completes : (s : State) → IsState s → (js : List Item) × (d : DeckValue) × AllByRecursion HasForm js × (run s js ≡ Ok (Whole d))
completes Opening is =
    (header numbers.One ∷ device D2311 ∷ mask 0 ∷ start 0 ∷ last_lines, _, (tt, (tt, (lit< tt, (lit< tt, last_form)))), refl)
completes (Named numbers.One) is = (device D2311 ∷ mask 0 ∷ start 0 ∷ last_lines, _, (tt, (lit< tt, (lit< tt, last_form))), refl)
completes (Named numbers.Two) is =
    (device D2311 ∷ mask 0 ∷ start 0 ∷ limit 1 ∷ last_lines, _, (tt, (lit< tt, (lit< tt, (lit< tt, last_form)))), refl)
completes (OnDevice numbers.One v) is = (mask 0 ∷ start 0 ∷ last_lines, _, (lit< tt, (lit< tt, last_form)), refl)
completes (OnDevice numbers.Two v) is = (mask 0 ∷ start 0 ∷ limit 1 ∷ last_lines, _, (lit< tt, (lit< tt, (lit< tt, last_form))), refl)
completes (Masked numbers.One v m) is = (start 0 ∷ last_lines, _, (lit< tt, last_form), refl)
completes (Masked numbers.Two v m) is = (start 0 ∷ limit 1 ∷ last_lines, _, (lit< tt, (lit< tt, last_form)), refl)
completes (Started v m a) is = (limit 1 ∷ last_lines, _, (lit< tt, last_form), refl)
completes (Listing h [] [] []) is = (last_lines, _, last_form, refl)
completes (Listing h [] (f ∷ fs) ss) is = absurd (cc (is.right.after.0))
completes (Listing h [] [] (s ∷ ss)) is = absurd (cc (is.right.after.1))
completes (Listing h (e ∷ es) fs ss) is = (storage 0 ∷ end ∷ [], _, (lit< tt, (tt, tt)), refl)
completes (Filling h es fs ss n bytes) is = (end ∷ [], _, (tt, tt), refl)
completes (Whole d) is = ([], d, tt, refl)
