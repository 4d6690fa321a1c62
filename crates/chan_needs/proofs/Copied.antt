-- Copying the bytes that are kept, area by area.
use Rattle.chan_needs.proofs.Names.{[], All, All-cons, All-head, All-nil, All-tail, ap, Area, arith, Bool, bytes_in, drop, drop-cons, drop_all, false, get_or, HoldsArea, HoldsAreas, IsInside, leb-true, length, length-append, List, nat_le, None, refl, Some, subst, suc, sym, take, true, ℕ, ◌++◌, ◌+◌, ◌-◌, ◌<◌, ◌∙◌, ◌∷◌, ◌≡◌, ◌≤◌}
use Rattle.std.proofs.Common.{append_assoc, if◌then◌else◌}
use Rattle.std.proofs.lemmas.Grind.{same_number_lists}
use Rattle.std.proofs.lemmas.List.{append-nil, drop-drop, get_or-drop, get_or-take, get_or_append_left, length-take, length-drop, take-append-drop}
use Rattle.std.proofs.Math.Seq.{drop-append_seam, take-append_seam}
use Rattle.ccw_core.specs.Storage.{range_at}
use Rattle.chan_needs.proofs.Holding.{nowhere}

-- the bytes of storage in an area
abbrev pub bytes_of : List ℕ → Area → List ℕ
bytes_of s a = take a.len (drop a.start s)

pub length_of : (s : List ℕ) (a : Area) → IsInside s a → length (bytes_of s a) ≡ a.len
length_of s a h = let l = length-take a.len (drop a.start s) in let d = length-drop a.start s in omega arith

-- ---- one area more

-- n bytes are copied, those of the first i areas, and the others of the buffer are as they were
pub record AreCopied (s : List ℕ) (areas : List Area) (i : ℕ) (old : List ℕ) (n : ℕ) (new : List ℕ) : Type 0 where
  pub inside : All (IsInside s) (drop i areas) → All (IsInside s) areas
  pub fits : n ≤ length new
  pub same_length : length new ≡ length old
  pub front : bytes_in s areas ≡ take n new ++ bytes_in s (drop i areas)
  pub rest : drop n new ≡ drop n old

module _ (s : List ℕ) (areas : List Area) (i : ℕ) (old : List ℕ) (n : ℕ) (now : List ℕ) (h : AreCopied s areas i old n now) where
  -- the next area
  module _ (bytes : List ℕ) (l : i < length areas) (e : bytes ≡ bytes_of s (get_or areas i nowhere)) where
    next : drop i areas ≡ get_or areas i nowhere ∷ drop (suc i) areas
    next = drop-cons areas i nowhere l

    whole : bytes_in s areas ≡ (take n now ++ bytes) ++ bytes_in s (drop (suc i) areas)
    whole =
        h.front
        ∙ ap (λ (z : List Area). take n now ++ bytes_in s z) next
        ∙ ap (λ z. take n now ++ (z ++ bytes_in s (drop (suc i) areas))) (sym e)
        ∙ sym (append_assoc (take n now) bytes (bytes_in s (drop (suc i) areas)))

    count : length (take n now ++ bytes) ≡ n + length bytes
    count = let x = length-append (take n now) bytes in let y = length-take n now in let f = h.fits in omega arith

    -- it is copied
    pub copied_more : (new : List ℕ) → IsInside s (get_or areas i nowhere) → n + length bytes ≤ length now
        → new ≡ (take n now ++ bytes) ++ drop (n + length bytes) now → AreCopied s areas (i + 1) old (n + length bytes) new
    copied_more new inside room w = record {
      inside = λ k. h.inside (subst (All (IsInside s)) (sym next)
          (All-cons (IsInside s) (get_or areas i nowhere) (drop (suc i) areas) inside (subst (λ (z : ℕ). All (IsInside s) (drop z areas)) one k)));
      fits = let d = same in omega arith;
      same_length = same ∙ h.same_length;
      front = whole ∙ ap (λ z. z ++ bytes_in s (drop (suc i) areas)) (sym taken) ∙ ap (λ z. take (n + length bytes) new ++ bytes_in s (drop z areas)) (sym one);
      rest = again drop ∙ drop-append_seam (take n now ++ bytes) more ∙ sym (drop-drop (length bytes) n now)
          ∙ ap (λ z. drop (length bytes) z) h.rest ∙ drop-drop (length bytes) n old;
    }
      where
        one : i + 1 ≡ suc i
        one = omega arith

        more : List ℕ
        more = drop (n + length bytes) now

        same : length new ≡ length now
        same =
            let x = ap length w in
            let y = length-append (take n now ++ bytes) (drop (n + length bytes) now) in
            let z = length-drop (n + length bytes) now in
            let c = count in
            omega arith

        again : (part : ℕ → List ℕ → List ℕ) → part (n + length bytes) new ≡ part (length (take n now ++ bytes)) ((take n now ++ bytes) ++ more)
        again part = ap (part (n + length bytes)) w ∙ ap (λ m. part m ((take n now ++ bytes) ++ more)) (sym count)

        taken : take (n + length bytes) new ≡ take n now ++ bytes
        taken = again take ∙ take-append_seam (take n now ++ bytes) more

-- ---- what is copied is held

holds_area : (s : List ℕ) (a : Area) (more : List ℕ) → IsInside s a → HoldsArea s a (bytes_of s a ++ more)
holds_area s a more h i l =
    let n = length_of s a h in
    let m = length-append (bytes_of s a) more in
    let b : i < length (bytes_of s a) = omega arith in (
      omega (arith, h),
      omega arith,
      sym (get_or_append_left (bytes_of s a) more 0 i b ∙ get_or-take a.len (drop a.start s) i 0 l ∙ get_or-drop a.start s i 0),
    )

copied_holds : (s : List ℕ) (areas : List Area) (more : List ℕ) → All (IsInside s) areas → HoldsAreas s areas (bytes_in s areas ++ more)
copied_holds s [] more h = tt
copied_holds s (a ∷ areas) more h = (
  subst (HoldsArea s a) (sym (append_assoc (bytes_of s a) (bytes_in s areas) more))
      (holds_area s a (bytes_in s areas ++ more) (All-head (IsInside s) a areas h)),
  subst (HoldsAreas s areas) (sym rest) (copied_holds s areas more (All-tail (IsInside s) a areas h)),
)
  where
    rest : drop a.len ((bytes_of s a ++ bytes_in s areas) ++ more) ≡ bytes_in s areas ++ more
    rest =
        ap (λ n. drop n ((bytes_of s a ++ bytes_in s areas) ++ more)) (sym (length_of s a (All-head (IsInside s) a areas h)))
        ∙ ap (λ z. drop (length (bytes_of s a)) z) (append_assoc (bytes_of s a) (bytes_in s areas) more)
        ∙ drop-append_seam (bytes_of s a) (bytes_in s areas ++ more)

-- ---- all are copied

module _ (s : List ℕ) (areas : List Area) (i : ℕ) (old : List ℕ) (n : ℕ) (now : List ℕ) (l : length areas ≤ i) (h : AreCopied s areas i old n now) where
  all_taken : bytes_in s areas ≡ take n now
  all_taken = h.front ∙ ap (λ (z : List Area). take n now ++ bytes_in s z) (drop_all i areas l) ∙ append-nil (take n now)

  pub all_counted : n ≡ length (bytes_in s areas)
  all_counted = let e = ap length all_taken in let t = length-take n now in let f = h.fits in omega arith

  pub all_written : now ≡ bytes_in s areas ++ drop n old
  all_written = sym (take-append-drop n now) ∙ ap (λ z. z ++ drop n now) (sym all_taken) ∙ ap (λ z. bytes_in s areas ++ z) h.rest

  pub all_fit : All (IsInside s) areas × (length (bytes_in s areas) ≤ length old)
  all_fit = (
    h.inside (subst (All (IsInside s)) (sym (drop_all i areas l)) (All-nil (IsInside s))),
    let c = all_counted in let f = h.fits in let e = h.same_length in omega arith,
  )

  pub all_held : HoldsAreas s areas now
  all_held = subst (HoldsAreas s areas) (sym all_written) (copied_holds s areas (drop n old) all_fit.0)

-- a range of storage that was read
pub range_read : (s : List ℕ) (a : Area) (bytes : List ℕ) → Some bytes ≡ range_at s a.start a.len → IsInside s a × (bytes ≡ bytes_of s a)
range_read s a bytes e = go (nat_le (a.start + a.len) (length s)) refl e
  where
    go : (t : Bool) → nat_le (a.start + a.len) (length s) ≡ t → Some bytes ≡ (if t then Some (bytes_of s a) else None) → IsInside s a × (bytes ≡ bytes_of s a)
    go true f g = (leb-true _ _ f, cc)
    go false f g = absurd cc

-- an area that was read whole and is the same as what was kept
pub area_read : (s : List ℕ) (a : Area) (kept now was : List ℕ) → IsInside s a × (now ≡ bytes_of s a)
    → a.len ≤ length kept → was ≡ take (a.len - 0) (drop 0 kept) → now ≡ was → HoldsArea s a kept
area_read s a kept now was read fits e same i l =
    let inside = read.0 in
    let whole : a.len - 0 ≡ a.len = omega arith in (
      omega arith,
      omega arith,
      sym (get_or-take a.len (drop a.start s) i 0 l ∙ get_or-drop a.start s i 0)
          ∙ ap (λ z. get_or z i 0) (sym read.1 ∙ same ∙ e ∙ ap (λ n. take n kept) whole) ∙ get_or-take a.len kept i 0 l,
    )

-- and if it holds what was kept, both are the same
pub same_bytes : (s : List ℕ) (a : Area) (kept now was : List ℕ) → IsInside s a × (now ≡ bytes_of s a)
    → a.len ≤ length kept → was ≡ take (a.len - 0) (drop 0 kept) → HoldsArea s a kept → now ≡ was
same_bytes s a kept now was read fits e held = read.1 ∙ same ∙ sym (e ∙ ap (λ n. take n kept) whole)
  where
    whole : a.len - 0 ≡ a.len
    whole = omega arith

    counted : length (bytes_of s a) ≡ a.len
    counted = length_of s a read.0

    same : bytes_of s a ≡ take a.len kept
    same =
        same_number_lists (bytes_of s a) (take a.len kept) (let l = length-take a.len kept in omega (arith, counted, fits, l)) (λ i l.
        let below : i < a.len = omega (arith, l, counted) in
        get_or-take a.len (drop a.start s) i 0 below ∙ get_or-drop a.start s i 0 ∙ (held i below).2 ∙ sym (get_or-take a.len kept i 0 below))

-- what holds when all areas were copied
pub ruleset copy_rules = (all_counted, all_written, all_held)
