-- What has been said where reading stands, and that a step says one line more.
use Rattle.chan_deck.proofs.Names.{[], after_item, all_append, AllByRecursion, and_parts, ap, append-nil, append_assoc, Area, arith, Cause, cond_both, Device, device, end, eqb-true, extent, extent_of, fetch, Filling, HasForm, HasLimit, header, header_of, Heading, DeckValue, value_of, is_limit, is_mask, is_size, is_zero, IsAddress, IsArea, IsByte, IsDeck, IsExtent, Item, items, LAST_CYLINDER, last_of, leb-true, length, length-append, limit, limit_line, List, Listing, lit<, ltb, ltb-false, map, map-append, mask, Masked, Named, nat_le, None, Ok, on_extent, on_put, OnDevice, One, Opening, Option, pad, put, puts, refl, replicate, Result, Some, stands, start, Started, State, step, storage, STORAGE_LIMIT, store, subst, suc, sym, true, Two, VersionNumber, Whole, zero, ℕ, ◌%◌, ◌&&◌, ◌++◌, ◌+◌, ◌-◌, ◌/◌, ◌<◌, ◌==◌, ◌∙◌, ◌∷◌, ◌≡◌, ◌≤◌}
use Rattle.std.proofs.lemmas.Result.{IfOk-at_ok}
use Rattle.std.specs.Result.{IfOk}
use Rattle.chan_deck.proofs.PutLemmas.{length_pad, puts-padded, puts-put}
use Rattle.chan_deck.specs.Reading.{on_storage}
use Rattle.chan_walk.specs.Limit.{IsLimit}
use Rattle.chan_deck.specs.declared.version.VersionNumber.TheVariants as numbers

-- ---- what has been said

abbrev pub heading : Heading → List Item
heading h = header (header_of h.version) ∷ device h.device ∷ mask h.mask ∷ start h.start ∷ limit_line h.version

abbrev pub lists : Heading → List (ℕ × ℕ) → List Area → List Area → List Item
lists h es fs ss = heading h ++ map extent_of es ++ map fetch fs ++ map store ss

-- the lines that lead to a state
abbrev pub said : State → List Item
said Opening = []
said (Named h) = header h ∷ []
said (OnDevice h v) = header h ∷ device v ∷ []
said (Masked h v m) = header h ∷ device v ∷ mask m ∷ []
said (Started v m a) = header numbers.Two ∷ device v ∷ mask m ∷ start a ∷ []
said (Listing h es fs ss) = lists h es fs ss
said (Filling h es fs ss n bytes) = lists h es fs ss ++ storage n ∷ puts (length bytes / 8) 0 bytes
said (Whole d) = items d

pub record IsHeading (h : Heading) : Type 0 where
  pub limit : HasLimit h.version
  pub mask : IsByte h.mask × (is_mask h.mask ≡ true)
  pub start : IsAddress h.start

-- areas come only behind an extent
abbrev pub ComeAfter : List (ℕ × ℕ) → List Area → List Area → Type 0
ComeAfter [] fs ss = (fs ≡ []) × (ss ≡ [])
ComeAfter (e ∷ es) fs ss = Unit {0}

pub record AreLists (h : Heading) (es : List (ℕ × ℕ)) (fs ss : List Area) : Type 0 where
  pub heading : IsHeading h
  pub after : ComeAfter es fs ss
  pub extents : AllByRecursion IsExtent es
  pub fetch : AllByRecursion IsArea fs
  pub store : AllByRecursion IsArea ss

pub record IsFilled (h : Heading) (es : List (ℕ × ℕ)) (fs ss : List Area) (n : ℕ) (front : List ℕ) : Type 0 where
  pub some : 0 < length es
  pub size : is_size n ≡ true
  pub within : length front ≤ n
  pub words : length front % 8 ≡ 0
  pub bytes : AllByRecursion IsByte front

-- what holds of what was read
abbrev pub IsRight : State → Type 0
IsRight Opening = Unit {0}
IsRight (Named h) = Unit {0}
IsRight (OnDevice h v) = Unit {0}
IsRight (Masked h v m) = IsByte m × (is_mask m ≡ true)
IsRight (Started v m a) = (IsByte m × (is_mask m ≡ true)) × IsAddress a
IsRight (Listing h es fs ss) = AreLists h es fs ss
IsRight (Filling h es fs ss n bytes) = AreLists h es fs ss × IsFilled h es fs ss n bytes
IsRight (Whole d) = IsDeck d

-- where a reading ends: what came last there
pub data Ends : State → Option Item → Type 0 where
  at_front : Ends Opening None
  at_header : (h : VersionNumber) → Ends (Named h) (Some (header h))
  at_device : (h : VersionNumber) (v : Device) → Ends (OnDevice h v) (Some (device v))
  at_mask : (h : VersionNumber) (v : Device) (m : ℕ) → Ends (Masked h v m) (Some (mask m))
  at_start : (v : Device) (m a : ℕ) → Ends (Listing (record { version = One; device = v; mask = m; start = a }) [] [] []) (Some (start a))
  at_second_start : (v : Device) (m a : ℕ) → Ends (Started v m a) (Some (start a))
  at_limit : (n : ℕ) (v : Device) (m a : ℕ) → Ends (Listing (record { version = Two n; device = v; mask = m; start = a }) [] [] []) (Some (limit n))
  at_extent : (h : Heading) (e : ℕ × ℕ) (es : List (ℕ × ℕ)) (first last : ℕ) → Ends (Listing h (e ∷ es) [] []) (Some (extent first last))
  at_fetch : (h : Heading) (e : ℕ × ℕ) (es : List (ℕ × ℕ)) (f : Area) (fs : List Area) (a : Area) → Ends (Listing h (e ∷ es) (f ∷ fs) []) (Some (fetch a))
  at_store : (h : Heading) (e : ℕ × ℕ) (es : List (ℕ × ℕ)) (fs : List Area) (s : Area) (ss : List Area) (a : Area)
      → Ends (Listing h (e ∷ es) fs (s ∷ ss)) (Some (store a))
  at_storage : (h : Heading) (es : List (ℕ × ℕ)) (fs ss : List Area) (n : ℕ) → Ends (Filling h es fs ss n []) (Some (storage n))
  at_put : (h : Heading) (es : List (ℕ × ℕ)) (fs ss : List Area) (n : ℕ) (bytes : List ℕ) (a : ℕ) (word : List ℕ) → a + 8 ≡ length bytes
      → Ends (Filling h es fs ss n bytes) (Some (put a word))
  at_end : (d : DeckValue) → Ends (Whole d) (Some end)

-- what holds where reading stands
pub record IsState (s : State) : Type 0 where
  pub right : IsRight s
  pub ends : Ends s (last_of (said s))

-- ---- tools

no_puts : puts (length {A = ℕ} [] / 8) 0 [] ≡ []
unfolding puts
no_puts = refl

pub last_of-push : (is : List Item) (i : Item) → last_of (is ++ i ∷ []) ≡ Some i
last_of-push [] i = refl
last_of-push (j ∷ []) i = refl
last_of-push (j ∷ k ∷ is) i = last_of-push (k ∷ is) i

pub size_parts : (n : ℕ) → is_size n ≡ true → (n % 8 ≡ 0) × (n ≤ STORAGE_LIMIT)
size_parts n e =
    let t = and_parts (n % 8 == 0) (nat_le n STORAGE_LIMIT) e in
    (eqb-true _ _ t.0, leb-true _ _ t.1)

pub limit_parts : (n : ℕ) → is_limit n ≡ true → IsLimit n
limit_parts n e =
    let t = and_parts (nat_le 1 n) (nat_le n 65536) e in
    (leb-true _ _ t.0, leb-true _ _ t.1)

come_more : (es : List (ℕ × ℕ)) (e : ℕ × ℕ) (fs ss : List Area) → ComeAfter (es ++ e ∷ []) fs ss
come_more [] e fs ss = tt
come_more (x ∷ es) e fs ss = tt

-- ---- steps

-- what a step gives is right, ends with its line, and says one line more
abbrev pub Says_more : State → Item → State → Type 0
Says_more s i next = IsRight next × Ends next (Some i) × (said next ≡ said s ++ i ∷ [])

-- so it is if the step goes on
abbrev Goes : State → Item → Result State Cause → Type 0
Goes s i r = IfOk r (Says_more s i)

extent_ends : (h : Heading) (es : List (ℕ × ℕ)) (first last : ℕ) → Ends (Listing h (es ++ (first, last) ∷ []) [] []) (Some (extent first last))
extent_ends h [] first last = at_extent h (first, last) [] first last
extent_ends h (e ∷ es) first last = at_extent h e (es ++ (first, last) ∷ []) first last

fetch_ends : (h : Heading) (e : ℕ × ℕ) (es : List (ℕ × ℕ)) (fs : List Area) (a : Area) → Ends (Listing h (e ∷ es) (fs ++ a ∷ []) []) (Some (fetch a))
fetch_ends h e es [] a = at_fetch h e es a [] a
fetch_ends h e es (f ∷ fs) a = at_fetch h e es f (fs ++ a ∷ []) a

store_ends : (h : Heading) (e : ℕ × ℕ) (es : List (ℕ × ℕ)) (fs ss : List Area) (a : Area) → Ends (Listing h (e ∷ es) fs (ss ++ a ∷ [])) (Some (store a))
store_ends h e es fs [] a = at_store h e es fs a [] a
store_ends h e es fs (s ∷ ss) a = at_store h e es fs s (ss ++ a ∷ []) a

extent_said : (before es new : List Item) → ((before ++ (es ++ new)) ++ []) ++ [] ≡ (((before ++ es) ++ []) ++ []) ++ new
extent_said before es new = simp (append-nil, append_assoc)

fetch_said : (before fs new : List Item) → (before ++ (fs ++ new)) ++ [] ≡ ((before ++ fs) ++ []) ++ new
fetch_said before fs new = simp (append-nil, append_assoc)

extent_more : (h : Heading) (es : List (ℕ × ℕ)) (first last : ℕ)
    → AreLists h es [] [] → Goes (Listing h es [] []) (extent first last) (on_extent h es first last)
extent_more h es first last are =
    let s = Listing h es [] [] in
    let i = extent first last in
    cond_both (ltb last first) _ _ (Goes s i) (λ _. tt) (λ ordered.
    cond_both (ltb LAST_CYLINDER last) _ _ (Goes s i) (λ _. tt) (λ inside. (
      record {
        heading = are.heading;
        after = come_more es (first, last) [] [];
        extents = all_append IsExtent es ((first, last) ∷ []) are.extents ((ltb-false _ _ ordered, ltb-false _ _ inside), tt);
        fetch = tt;
        store = tt;
      },
      extent_ends h es first last,
      rw (map-append extent_of es ((first, last) ∷ [])) (extent_said (heading h) (map extent_of es) (extent first last ∷ [])),
    )))

fetch_more : (h : Heading) (e : ℕ × ℕ) (es : List (ℕ × ℕ)) (fs : List Area) (a : Area)
    → AreLists h (e ∷ es) fs [] → IsArea a → Says_more (Listing h (e ∷ es) fs []) (fetch a) (Listing h (e ∷ es) (fs ++ a ∷ []) [])
fetch_more h e es fs a are form = (
  record { heading = are.heading; after = tt; extents = are.extents; fetch = all_append IsArea fs (a ∷ []) are.fetch (form, tt); store = tt },
  fetch_ends h e es fs a,
  rw (map-append fetch fs (a ∷ [])) (fetch_said (heading h ++ map extent_of (e ∷ es)) (map fetch fs) (fetch a ∷ [])),
)

store_more : (h : Heading) (e : ℕ × ℕ) (es : List (ℕ × ℕ)) (fs ss : List Area) (a : Area)
    → AreLists h (e ∷ es) fs ss → IsArea a → Says_more (Listing h (e ∷ es) fs ss) (store a) (Listing h (e ∷ es) fs (ss ++ a ∷ []))
store_more h e es fs ss a are form = (
  record { heading = are.heading; after = tt; extents = are.extents; fetch = are.fetch; store = all_append IsArea ss (a ∷ []) are.store (form, tt) },
  store_ends h e es fs ss a,
  rw (map-append store ss (a ∷ [])) (sym (append_assoc (heading h ++ map extent_of (e ∷ es) ++ map fetch fs) (map store ss) (store a ∷ []))),
)

storage_more : (h : Heading) (e : ℕ × ℕ) (es : List (ℕ × ℕ)) (fs ss : List Area) (n : ℕ)
    → AreLists h (e ∷ es) fs ss → Goes (Listing h (e ∷ es) fs ss) (storage n) (on_storage h (e ∷ es) fs ss n)
storage_more h e es fs ss n are =
    cond_both (is_size n) _ _ (Goes (Listing h (e ∷ es) fs ss) (storage n)) (λ size. (
      (are, record { some = omega arith; size = size; within = omega arith; words = refl; bytes = tt }),
      at_storage h (e ∷ es) fs ss n,
      rw no_puts refl,
    )) (λ _. tt)

pub bytes_zeros : (n : ℕ) → AllByRecursion IsByte (replicate n 0)
bytes_zeros zero = tt
bytes_zeros (suc n) = (lit< tt, bytes_zeros n)

pub bytes_pad : (bytes : List ℕ) (n : ℕ) → AllByRecursion IsByte bytes → AllByRecursion IsByte (pad bytes n)
bytes_pad bytes n h = all_append IsByte bytes (replicate (n - length bytes) 0) h (bytes_zeros (n - length bytes))

put_more : (h : Heading) (es : List (ℕ × ℕ)) (fs ss : List Area) (n : ℕ) (bytes : List ℕ) (a : ℕ)
    (word : List ℕ)
    → IsRight (Filling h es fs ss n bytes) → HasForm (put a word)
    → Goes (Filling h es fs ss n bytes) (put a word) (on_put h es fs ss n bytes a word)
put_more h es fs ss n bytes a word is form =
    let s = Filling h es fs ss n bytes in
    let low = a % 8 == 0 && nat_le (length bytes) a in
    cond_both (low && nat_le (a + 8) n) _ _ (Goes s (put a word)) (λ place.
    cond_both (is_zero word) _ _ (Goes s (put a word)) (λ _. tt) (λ some.
    let t = and_parts low (nat_le (a + 8) n) place in
    let u = and_parts (a % 8 == 0) (nat_le (length bytes) a) t.0 in
    let above : length bytes ≤ a = leb-true _ _ u.1 in
    let inside : a + 8 ≤ n = leb-true _ _ t.1 in
    let aligned : a % 8 ≡ 0 = eqb-true _ _ u.0 in
    let len : length (pad bytes a ++ word) ≡ a + 8 = omega (arith, length-append (pad bytes a) word, length_pad bytes a above, form.1.0) in (
      (
        is.0,
        record {
          some = is.1.some;
          size = is.1.size;
          within = rw len inside;
          words = rw len (omega arith);
          bytes = all_append IsByte (pad bytes a) word (bytes_pad bytes a is.1.bytes) form.1.1;
        },
      ),
      at_put h es fs ss n (pad bytes a ++ word) a word (sym len),
      rw (puts-put a bytes word above aligned is.1.words form.1.0 some)
          (sym (append_assoc (lists h es fs ss) (storage n ∷ puts (length bytes / 8) 0 bytes) (put a word ∷ []))),
    ))) (λ _. tt)

-- the deck that a filled state would be
pub filled_is_deck : (h : Heading) (es : List (ℕ × ℕ)) (fs ss : List Area) (n : ℕ) (bytes : List ℕ)
    → IsRight (Filling h es fs ss n bytes)
    → IsDeck (value_of h es fs ss (pad bytes n))
    × (items (value_of h es fs ss (pad bytes n)) ≡ said (Filling h es fs ss n bytes) ++ end ∷ [])
filled_is_deck h es fs ss n bytes is =
    let parts = size_parts n is.1.size in
    let len = length_pad bytes n is.1.within in
    let p = puts-padded n bytes is.1.within parts.0 is.1.words in (
      record {
        limit = is.0.heading.limit;
        mask = is.0.heading.mask;
        start = is.0.heading.start;
        extents = (is.1.some, is.0.extents);
        fetch = is.0.fetch;
        store = is.0.store;
        size = rw len parts.1;
        whole = rw len parts.0;
        bytes = bytes_pad bytes n is.1.bytes;
      },
      rw (len, p) refl,
    )

-- the lines of the heading are read, and no list yet
opened : (h : Heading) → IsHeading h → AreLists h [] [] []
opened h is = record { heading = is; after = (refl, refl); extents = tt; fetch = tt; store = tt }

-- a line that may stand leads to what is right, and says one line more
judged_more : (s : State) (i : Item) → IsRight s → HasForm i → stands s i ≡ true → Goes s i (after_item s i)
judged_more Opening (header h) is form f = (tt, at_header h, refl)
judged_more (Named h) (device v) is form f = (tt, at_device h v, refl)
judged_more (OnDevice h v) (mask m) is form f =
    cond_both (is_mask m) _ _ (Goes (OnDevice h v) (mask m)) (λ right. ((form, right), at_mask h v m, refl)) (λ _. tt)
judged_more (Masked numbers.One v m) (start a) is form f = (opened _ (record { limit = tt; mask = is; start = form }), at_start v m a, refl)
judged_more (Masked numbers.Two v m) (start a) is form f = ((is, form), at_second_start v m a, refl)
judged_more (Started v m a) (limit n) is form f =
    cond_both (is_limit n) _ _ (Goes (Started v m a) (limit n))
    (λ right. (opened _ (record { limit = limit_parts n right; mask = is.0; start = is.1 }), at_limit n v m a, refl)) (λ _. tt)
judged_more (Listing h es [] []) (extent first last) is form f = extent_more h es first last is
judged_more (Listing h (e ∷ es) fs []) (fetch a) is form f = fetch_more h e es fs a is form
judged_more (Listing h (e ∷ es) fs ss) (store a) is form f = store_more h e es fs ss a is form
judged_more (Listing h (e ∷ es) fs ss) (storage n) is form f = storage_more h e es fs ss n is
judged_more (Filling h es fs ss n bytes) (put a word) is form f = put_more h es fs ss n bytes a word is form
judged_more (Filling h es fs ss n bytes) end is form f =
    let whole = filled_is_deck h es fs ss n bytes is in
    (whole.0, at_end (value_of h es fs ss (pad bytes n)), whole.1)
judged_more s i is form f = absurd cc

-- a step that goes on leads to a state, and says one line more
pub step-says : (s next : State) (i : Item) → IsState s → HasForm i → step s i ≡ Ok next → IsState next × (said next ≡ said s ++ i ∷ [])
step-says s next i is form e =
    let more = IfOk-at_ok (Says_more s i) e (cond_both (stands s i) _ _ (Goes s i) (judged_more s i is.right form) (λ _. tt)) in
    (record { right = more.0; ends = subst (λ o. Ends next o) (sym (ap last_of more.2 ∙ last_of-push (said s) i)) more.1 }, more.2)
