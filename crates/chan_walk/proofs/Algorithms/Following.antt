-- Following the chain of a seek, CCW by CCW: which bytes of an argument it gives.
use Rattle.chan_walk.proofs.Names.{[], AllByRecursion, and_parts, ap, append-nil, append_assoc, AreLinked, AreZeroFrom, argument_addresses, arith, both_ways, byte, cases_lt, ccw, ccw_at, ccw_at-some, chains_data, data_addresses, false, Fields, get_or, get_or-append, get_or-map, has_data_in, inl, inr, is_inside, is_part, IsChain, joined, leb-true, length, length-append, length-map, length-range_with_len, List, map, None, onward, range_with_len, refl, rules, Some, subst, suc, sym, take, take_all, total, true, zero, ℕ, ◌++◌, ◌+◌, ◌-◌, ◌<◌, ◌∙◌, ◌∷◌, ◌≡◌, ◌≤◌, ◌⊎◌}
use Rattle.std.proofs.Common.{length-take-le}
use Rattle.std.proofs.lemmas.List.{ext_get_or, get_or-append-add, get_or-take}
use Rattle.std.proofs.lemmas.List.FromFn.{get_or-range_with_len}
use Rattle.chan_walk.specs.declared.argument.GivenBytes.{GivenBytes}
use Rattle.chan_walk.specs.Operand.{IsFront, IsFrontOf, AreOfArgument, IsShort}
use Rattle.chan_walk.proofs.Theory.Chains.{chain_begins_with_part, chain_cons, chain_tail, onward_leads, onward_only, part_counts}
use Rattle.chan_walk.proofs.Theory.CheckCases.{found_is_part, is_part-none}
use Rattle.chan_walk.proofs.Theory.Lists.{all_append, range_split, take_front}

pub chain_goes_on : (s : List ℕ) (n a : ℕ) (l : List ℕ) → (ccw s a).count < n → IsChain s n a l
    → (chains_data (ccw s a) ≡ true) × ((k : List ℕ) × IsChain s (n - (ccw s a).count) (onward s a) k)
chain_goes_on s n a l lt k = search (rules, chain_tail, onward_only, chain_begins_with_part)

-- no chain begins where no CCW stands
pub begins_nowhere : (s : List ℕ) (n a : ℕ) → ccw_at s a ≡ None → (l : List ℕ) → IsChain s n a l → ⊥
begins_nowhere s n a e l k = both_ways _ (is_part-none s a e) (chain_begins_with_part s n a l k)

-- the addresses after n more from a
pub note_more : (before taken taken' : List ℕ) (have from n : ℕ) → length before ≡ have → ((i : ℕ) → i < have → get_or taken i 0 ≡ get_or before i 0)
    → ((i : ℕ) → i < have → get_or taken' i 0 ≡ get_or taken i 0) → ((i : ℕ) → i < n → get_or taken' (have + i) 0 ≡ from + i)
    → (i : ℕ) → i < have + n → get_or taken' i 0 ≡ get_or (before ++ range_with_len from n) i 0
note_more before taken taken' have from n c r b a i h = go (cases_lt i have)
  where
    go : (i < have) ⊎ (have ≤ i) → get_or taken' i 0 ≡ get_or (before ++ range_with_len from n) i 0
    go (inl l) = b i l ∙ r i l ∙ sym (get_or-append before (range_with_len from n) 0 i (omega arith))
    go (inr l) =
        let k = i - have in
        let at : have + k ≡ i = omega arith in
        let there : length before + k ≡ i = omega arith in
        let short : k < n = omega arith in
        ap (λ z. get_or taken' z 0) (sym at) ∙ a k short ∙ sym (get_or-range_with_len from n k 0 short)
        ∙ sym (get_or-append-add before (range_with_len from n) k 0) ∙ ap (λ z. get_or (before ++ range_with_len from n) z 0) there

-- addresses taken one by one stand at the head
taken_front : (taken before : List ℕ) (n : ℕ) → n ≤ length taken → length before ≡ n
    → ((i : ℕ) → i < n → get_or taken i 0 ≡ get_or before i 0) → take n taken ≡ before
taken_front taken before n le c same =
    let l = length-take-le n taken le in
    ext_get_or 0 (take n taken) before (l ∙ sym c) (λ i h. let lt : i < n = omega (arith, l) in get_or-take n taken i 0 lt ∙ same i lt)

take_twice : (n : ℕ) (xs : List ℕ) → take n (take n xs) ≡ take n xs
take_twice zero xs = refl
take_twice (suc n) [] = refl
take_twice (suc n) (x ∷ xs) = ap (λ t. x ∷ t) (take_twice n xs)

-- what a CCW that gives bytes fits
pub record IsInRange (s : List ℕ) (a : ℕ) (c : Fields) : Type 0 where
  pub inside : a + 8 ≤ length s
  pub data_in : c.address + c.count ≤ length s
  pub counts : 0 < c.count

in_range : (s : List ℕ) (a : ℕ) → is_part s a ≡ true → IsInRange s a (ccw s a)
unfolding is_part is_inside has_data_in
in_range s a h = search (rules, and_parts, leb-true, part_counts)

pub part_in_range : (s : List ℕ) (a : ℕ) (c : Fields) → ccw_at s a ≡ Some c → is_part s a ≡ true → IsInRange s a c
part_in_range s a c h k = subst (IsInRange s a) (sym (ccw_at-some s a c h).2) (in_range s a k)

-- what is known of a CCW that was found
pub ruleset found_parts = (found_is_part, part_in_range)

-- ---- how many the bytes of a chain are

length_joined : (s l : List ℕ) → length (joined s l) ≡ total s l
length_joined s [] = refl
length_joined s (a ∷ l) =
    length-append (data_addresses s a) (joined s l) ∙ ap (λ n. n + length (joined s l)) (length-range_with_len (ccw s a).address (ccw s a).count)
    ∙ ap (λ n. (ccw s a).count + n) (length_joined s l)

pub length_front : (s : List ℕ) (n a : ℕ) (l : List ℕ) → IsChain s n a l → length (take n (joined s l)) ≡ n
length_front s n a l k = let e = k.enough in length-take-le n (joined s l) (omega (arith, length_joined s l, e))

-- ---- the bytes of an argument lie in storage

range_below : (a k n : ℕ) → a + k ≤ n → AllByRecursion (λ b. b < n) (range_with_len a k)
range_below a zero n h = tt
range_below a (suc k) n h = (omega arith, range_below (a + 1) k n (omega arith))

data_below : (s : List ℕ) (a : ℕ) → is_part s a ≡ true → AllByRecursion (λ b. b < length s) (data_addresses s a)
data_below s a h = range_below (ccw s a).address (ccw s a).count (length s) (in_range s a h).data_in

joined_below : (s l : List ℕ) → AreLinked s l → AllByRecursion (λ b. b < length s) (joined s l)
joined_below s [] h = tt
joined_below s (a ∷ []) h = all_append (λ b. b < length s) (data_addresses s a) [] (data_below s a h) tt
joined_below s (a ∷ b ∷ l) h = all_append (λ b. b < length s) (data_addresses s a) (joined s (b ∷ l)) (data_below s a h.0) (joined_below s (b ∷ l) h.3)

take_below : (n k : ℕ) (xs : List ℕ) → AllByRecursion (λ b. b < n) xs → AllByRecursion (λ b. b < n) (take k xs)
take_below n zero xs h = tt
take_below n (suc k) [] h = tt
take_below n (suc k) (x ∷ xs) h = (h.0, take_below n k xs h.1)

index_below : (n i : ℕ) (xs : List ℕ) → 0 < n → AllByRecursion (λ b. b < n) xs → get_or xs i 0 < n
index_below n i [] p h = p
index_below n zero (x ∷ xs) p h = h.0
index_below n (suc i) (x ∷ xs) p h = index_below n i xs p h.1

pub argument_below : (s : List ℕ) (n a : ℕ) (l x : List ℕ) → IsChain s n a l → x ≡ argument_addresses s l → (i : ℕ) → get_or x i 0 < length s
argument_below s n a l x k e i =
    let inside = (in_range s a (chain_begins_with_part s n a l k)).inside in
    let below = take_below (length s) 6 (joined s l) (joined_below s l k.linked) in
    subst (λ z. get_or z i 0 < length s) (sym e) (index_below (length s) i (argument_addresses s l) (omega arith) below)

-- ---- how far the chain was followed

-- the chain that begins at a has given this many bytes where it comes to here, and their addresses were taken
pub record IsGiven (s : List ℕ) (a : ℕ) (taken : List ℕ) (have here : ℕ) : Type 0 where
  pub before : List ℕ
  pub count : length before ≡ have
  pub noted : (i : ℕ) → i < have → get_or taken i 0 ≡ get_or before i 0
  pub some : 0 < have → (l : List ℕ) × IsChain s have a l × (joined s l ≡ before)
  pub to : (m : ℕ) → 0 < m → (l : List ℕ) → IsChain s m here l → (k : List ℕ) × IsChain s (have + m) a k × (joined s k ≡ before ++ joined s l)
  pub from : (m : ℕ) → 0 < m → (k : List ℕ) → IsChain s (have + m) a k → (l : List ℕ) × IsChain s m here l

-- the chain that begins at a gives n bytes, and there it ends
pub record IsEnded (s : List ℕ) (a n : ℕ) (x : List ℕ) : Type 0 where
  pub front : IsFront s a n x
  pub no_more : (m : ℕ) → 0 < m → (l : List ℕ) → IsChain s (n + m) a l → ⊥

pub ended_short : (s : List ℕ) (a n : ℕ) (x : List ℕ) → n < 6 → IsEnded s a n x → IsShort s a n
ended_short s a n x lt e =
    let rest : n + (6 - n) ≡ 6 = omega arith in (
      (λ l k. e.no_more (6 - n) (omega arith) l (subst (λ z. IsChain s z a l) (sym rest) k)),
      record { some = λ h. let f = e.front h in (f.0, f.1); no_more = e.no_more 1 (omega arith) },
    )

module _ (s : List ℕ) (a : ℕ) (taken : List ℕ) (have here : ℕ) (g : IsGiven s a taken have here) where
  -- where what stands here gives no bytes
  pub ends_before : have ≤ length taken → is_part s here ≡ false → IsEnded s a have taken
  ends_before le n = record {
    front = λ h.
        let l = g.some h in
        (l.0, l.1, taken_front taken g.before have le g.count g.noted ∙ sym (ap (take have) l.2 ∙ take_all have g.before (omega (arith, g.count))));
    no_more = λ m h l k. let r = g.from m h l k in both_ways _ n (chain_begins_with_part s m here r.0 r.1);
  }

  module _ (part : is_part s here ≡ true) where
    abbrev count : ℕ
    count = (ccw s here).count

    abbrev before : List ℕ
    before = g.before ++ data_addresses s here

    counted : length before ≡ have + count
    counted =
        length-append g.before (data_addresses s here) ∙ ap (λ z. z + length (data_addresses s here)) g.count
        ∙ ap (λ z. have + z) (length-range_with_len (ccw s here).address count)

    here_alone : (l : List ℕ) × IsChain s (have + count) a l × (joined s l ≡ before)
    here_alone =
        let c = part_counts s here part in
        let l = g.to count c (here ∷ []) (record { begins = refl; linked = part; short = c; enough = omega arith }) in
        (l.0, l.1, l.2 ∙ ap (λ z. g.before ++ z) (append-nil (data_addresses s here)))

    more_here : (m : ℕ) → 0 < m → (l : List ℕ) → IsChain s (have + count + m) a l → (k : List ℕ) × IsChain s (count + m) here k
    more_here m h l k = let e : have + count + m ≡ have + (count + m) = omega arith in g.from (count + m) (omega arith) l (subst (λ n. IsChain s n a l) e k)

    module _ (taken' : List ℕ) (b : (i : ℕ) → i < have → get_or taken' i 0 ≡ get_or taken i 0) where
      -- with the addresses of all that stands here
      module _ (ad : (i : ℕ) → i < count → get_or taken' (have + i) 0 ≡ (ccw s here).address + i) where
        noted_more : (i : ℕ) → i < have + count → get_or taken' i 0 ≡ get_or before i 0
        noted_more = note_more g.before taken taken' have (ccw s here).address count g.count g.noted b ad

        -- where the chain ends here, or leads to no CCW
        pub ends_here : have + count ≤ length taken'
            → (chains_data (ccw s here) ≡ false) ⊎ (ccw_at s (onward s here) ≡ None) → IsEnded s a (have + count) taken'
        ends_here le end = record { front = front; no_more = λ m h l k. none end m h l k }
          where
            front : IsFront s a (have + count) taken'
            front h =
                let n = have + count in (
                  here_alone.0,
                  here_alone.1,
                  taken_front taken' before n le counted noted_more ∙ sym (ap (take n) here_alone.2 ∙ take_all n before (omega (arith, counted))),
                )

            none : (chains_data (ccw s here) ≡ false) ⊎ (ccw_at s (onward s here) ≡ None)
                → (m : ℕ) → 0 < m → (l : List ℕ) → IsChain s (have + count + m) a l → ⊥
            none (inl n) m h l k = let r = more_here m h l k in both_ways _ n (chain_goes_on s (count + m) here r.0 (omega arith) r.1).0
            none (inr n) m h l k =
                let r = more_here m h l k in
                let t = (chain_goes_on s (count + m) here r.0 (omega arith) r.1).1 in
                begins_nowhere s _ (onward s here) n t.0 t.1

        -- and where it goes on
        pub goes_further : chains_data (ccw s here) ≡ true → IsGiven s a taken' (have + count) (onward s here)
        goes_further cd = record {
          before = before;
          count = counted;
          noted = noted_more;
          some = λ h. here_alone;
          to = λ m h l k.
              let d : count + m - count ≡ m = omega arith in
              let e : have + (count + m) ≡ have + count + m = omega arith in
              let r = g.to (count + m) (omega arith) (here ∷ l) (chain_cons s (count + m) here (onward s here) l part cd (onward_leads s here)
              (omega arith) (subst (λ n. IsChain s n (onward s here) l) (sym d) k)) in
              (r.0, subst (λ n. IsChain s n a r.0) e r.1, r.2 ∙ sym (append_assoc g.before (data_addresses s here) (joined s l)));
          from = λ m h l k.
              let d : count + m - count ≡ m = omega arith in
              let r = more_here m h l k in
              let t = (chain_goes_on s (count + m) here r.0 (omega arith) r.1).1 in
              (t.0, subst (λ n. IsChain s n (onward s here) t.0) d t.1);
        }

      -- with as many as are still to come
      pub completes : have < 6 → 6 - have ≤ count → length taken' ≡ 6 → ((i : ℕ) → i < 6 - have → get_or taken' (have + i) 0 ≡ (ccw s here).address + i)
          → (l : List ℕ) × IsChain s 6 a l × (taken' ≡ argument_addresses s l)
      completes few le n ad =
          let room = 6 - have in
          let from = (ccw s here).address in
          let six : have + room ≡ 6 = omega arith in
          let t = g.to room (omega arith) (here ∷ []) (record { begins = refl; linked = part; short = omega arith; enough = omega arith }) in
          let cut : count ≡ room + (count - room) = omega arith in
          let split : data_addresses s here ≡ range_with_len from room ++ range_with_len (from + room) (count - room) =
          ap (range_with_len from) cut ∙ range_split from room (count - room) in
          let front = g.before ++ range_with_len from room in
          let rest = range_with_len (from + room) (count - room) in
          let len : length front ≡ 6 =
          length-append g.before (range_with_len from room) ∙ ap (λ z. length g.before + z) (length-range_with_len from room) ∙ omega (arith, g.count) in
          let whole : joined s t.0 ≡ front ++ rest =
          t.2 ∙ ap (λ z. g.before ++ z) (append-nil (data_addresses s here) ∙ split) ∙ sym (append_assoc g.before (range_with_len from room) rest) in
          let none : 6 - length front ≡ 0 = omega arith in
          let args : argument_addresses s t.0 ≡ front =
          ap (take 6) whole ∙ take_front front rest (omega arith) ∙ ap (λ z. front ++ take z rest) none ∙ append-nil front in
          let same : taken' ≡ front =
          ext_get_or 0 taken' front (n ∙ sym len) (λ i h. note_more g.before taken taken' have from room g.count g.noted b ad i (omega arith)) in
          (t.0, subst (λ z. IsChain s z a t.0) six t.1, same ∙ sym args)

-- ---- the bytes at these addresses

-- read one by one
read_front : (s bytes addresses : List ℕ) (n : ℕ) → n ≤ 6 → length bytes ≡ 6 → ((i : ℕ) → i < n → get_or bytes i 0 ≡ byte s (get_or addresses i 0))
    → length (take n addresses) ≡ n → take n bytes ≡ map (byte s) (take n addresses)
read_front s bytes addresses n few six same len =
    let l = length-take-le n bytes (omega (arith, six)) in
    ext_get_or 0 (take n bytes) (map (byte s) (take n addresses)) (l ∙ sym (length-map (take n addresses) (byte s) ∙ len))
    (λ i h. let lt : i < n = omega (arith, l) in
    get_or-take n bytes i 0 lt ∙ same i lt ∙ ap (byte s) (sym (get_or-take n addresses i 0 lt))
    ∙ sym (get_or-map (byte s) (take n addresses) i 0 0 (omega (arith, len))))

-- the addresses and the bytes are what was gathered
pub gathered : (s : List ℕ) (a : ℕ) (g : GivenBytes) → IsFrontOf s a g.count g.addresses → length g.bytes ≡ 6
    → ((i : ℕ) → i < g.count → get_or g.bytes i 0 ≡ byte s (get_or g.addresses i 0)) → AreZeroFrom g.count g.bytes → AreOfArgument s a g
gathered s a g f six same none = record {
  few = f.few;
  whole = λ e.
      let w = f.whole e in
      let len : length (take 6 g.addresses) ≡ 6 = ap (λ x. length (take 6 x)) w.2 ∙ ap length (take_twice 6 (joined s w.0)) ∙ length_front s 6 a w.0 w.1 in
      let all : length g.addresses ≡ 6 = ap length w.2 ∙ length_front s 6 a w.0 w.1 in
      let is = read_front s g.bytes g.addresses 6 (omega arith) six (λ i h. same i (omega (arith, e, h))) len in
      record {
        six = e;
        chain = w.0;
        is_chain = w.1;
        addresses = w.2;
        bytes = sym (take_all 6 g.bytes (omega (arith, six))) ∙ is ∙ ap (map (byte s)) (take_all 6 g.addresses (omega (arith, all)) ∙ w.2);
      };
  short = λ lt.
      let h = f.short lt in (
        h.0,
        record {
          few = f.few;
          front = h.1;
          bytes = read_front s g.bytes g.addresses g.count f.few six same (len g.count h.1);
          no_bytes = none;
          no_addresses = h.2;
        },
      );
}
  where
    len : (n : ℕ) → IsFront s a n g.addresses → length (take n g.addresses) ≡ n
    len zero f = refl
    len (suc n) f = let l = f (omega arith) in ap length l.2 ∙ length_front s (suc n) a l.0 l.1
