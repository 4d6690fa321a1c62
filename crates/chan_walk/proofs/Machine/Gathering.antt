-- A seek that takes its argument while its chain runs.
use Rattle.chan_walk.proofs.Names.{[], ap, append-nil, append_assoc, argument, argument_addresses, arith, both_ways, byte, ccw, ChainComesTo, ChainLeads, ChainOut, chains_data, data_addresses, false, Fields, Has, inl, inr, is_part, is_transfer, IsChain, IsGathered, joined, length, length-append, length-map, length-range_with_len, List, map, map-append, min, Place, range_with_len, refl, rules, straight_to, subst, sym, take, taken, transferred_to, true, with_taken, ℕ, ◌++◌, ◌+◌, ◌-◌, ◌<◌, ◌∙◌, ◌∷◌, ◌≡◌, ◌≤◌}
use Rattle.chan_walk.proofs.Theory.Chains.{part_is_no_transfer, chain_begins_with_part, chain_tail}
use Rattle.chan_walk.proofs.Theory.Lists.{has_left, has_right, range_split, take_front}

-- what m more bytes at p make of it
pub record Advance (s l : List ℕ) (p : Place) (c : Fields) (x : List ℕ) (m : ℕ) (before : List ℕ) : Type 0 where
  pub covers : length (with_taken s c m x) ≡ 6 → argument_addresses s l ≡ before ++ taken c m x
  pub within : (b : ℕ) → Has (taken c m x) b → Has (argument_addresses s l) b
  pub full : length (with_taken s c m x) ≡ 6 → with_taken s c m x ≡ argument s l
  pub on : length (with_taken s c m x) < 6 → m ≡ c.count
      → (w : IsGathered s l (straight_to (p.address + 8) ChainOut) (with_taken s c m x)) × (w.before ≡ before ++ taken c m x)
  pub chains : length (with_taken s c m x) < 6 → m ≡ c.count → chains_data c ≡ true

module _ (s l : List ℕ) where
  -- at the CCW that is next in the chain
  gather_rest : (p : Place) (x before : List ℕ) (a : ℕ) (rest : List ℕ) (m : ℕ) → p.address ≡ a → IsChain s (6 - length before) a rest
      → before ++ joined s rest ≡ joined s l → length before < 6 → x ≡ map (byte s) before → m ≤ (ccw s a).count → Advance s l p (ccw s a) x m before
  gather_rest p x before a [] m at k all few read le = elim k.begins [ ]
  gather_rest p x before a (d ∷ rest) m at k all few read le =
      record {
        covers = λ h. sym (exact (sym (length-map after (byte s)) ∙ ap length (sym bytes) ∙ h));
        within = λ b h. subst (λ z. Has z b) (sym front) (has_left after _ b (has_right before (taken c m x) b h));
        full = λ h. bytes ∙ ap (map (byte s)) (exact (sym (length-map after (byte s)) ∙ ap length (sym bytes) ∙ h));
        on = λ h e. further rest k all h e;
        chains = λ h e. must rest k h e;
      }
    where
      c : Fields
      c = ccw s a

      lx : length x ≡ length before
      lx = ap length read ∙ length-map before (byte s)

      after : List ℕ
      after = before ++ taken c m x

      bytes : with_taken s c m x ≡ map (byte s) after
      bytes = ap (λ z. z ++ map (byte s) (taken c m x)) read ∙ sym (map-append (byte s) before (taken c m x))

      ln : length after ≡ length before + min m (6 - length x)
      ln = length-append before (taken c m x) ∙ ap (λ n. length before + n) (length-range_with_len c.address (min m (6 - length x)))

      at_most : length after ≤ 6
      at_most = omega (arith, ln, lx)

      tail : List ℕ
      tail = range_with_len (c.address + min m (6 - length x)) (c.count - min m (6 - length x)) ++ joined s rest

      prefix : after ++ tail ≡ joined s l
      prefix =
          let e : c.count ≡ min m (6 - length x) + (c.count - min m (6 - length x)) = omega arith in
          let f : data_addresses s a ≡ taken c m x ++ range_with_len (c.address + min m (6 - length x)) (c.count - min m (6 - length x)) =
          ap (range_with_len c.address) e ∙ range_split c.address (min m (6 - length x)) (c.count - min m (6 - length x)) in
          let g : data_addresses s d ≡ data_addresses s a = ap (data_addresses s) k.begins in
          append_assoc before (taken c m x) tail
          ∙ ap (λ z. before ++ z) (sym (append_assoc (taken c m x) _ (joined s rest)))
          ∙ ap (λ z. before ++ (z ++ joined s rest)) (sym (g ∙ f))
          ∙ all

      front : argument_addresses s l ≡ after ++ take (6 - length after) tail
      front = ap (take 6) (sym prefix) ∙ take_front after tail at_most

      exact : length after ≡ 6 → after ≡ argument_addresses s l
      exact h = search (rules, after, front, tail, append-nil)

      less : length (with_taken s c m x) < 6 → length after < 6
      less h = subst (λ n. n < 6) (ap length bytes ∙ length-map after (byte s)) h

      not_last : IsChain s (6 - length before) a (d ∷ []) → length (with_taken s c m x) < 6 → m ≡ c.count → ⊥
      not_last k h e = search (rules, less, c, ln, lx)

      must : (rest : List ℕ) → IsChain s (6 - length before) a (d ∷ rest) → length (with_taken s c m x) < 6 → m ≡ c.count → chains_data c ≡ true
      must rest k h e = search (rules, not_last)

      lead : (y : ℕ) → ChainLeads s a y → ChainComesTo s (straight_to (p.address + 8) ChainOut) y
      lead y h = search rules

      further : (rest : List ℕ) → IsChain s (6 - length before) a (d ∷ rest) → before ++ joined s (d ∷ rest) ≡ joined s l → length (with_taken s c m x) < 6
          → m ≡ c.count → (w : IsGathered s l (straight_to (p.address + 8) ChainOut) (with_taken s c m x)) × (w.before ≡ after)
      further [] k all h e = absurd (not_last k h e)
      further (y ∷ z) k all h e =
          let w = less h in
          let whole : min m (6 - length x) ≡ c.count = omega (arith, ln, lx) in
          let same : taken c m x ≡ data_addresses s d = ap (range_with_len c.address) whole ∙ ap (data_addresses s) (sym k.begins) in
          let n : 6 - length before - (ccw s d).count ≡ 6 - length after =
          subst (λ b. 6 - length before - (ccw s b).count ≡ 6 - length after) (sym k.begins) (omega (arith, ln, lx)) in (
            record {
              before = after;
              rest = y ∷ z;
              at = y;
              leads = lead y (subst (λ b. ChainLeads s b y) k.begins k.linked.2);
              chain = subst (λ b. IsChain s b y (y ∷ z)) n (chain_tail s (6 - length before) a d y z k);
              all = append_assoc before (taken c m x) (joined s (y ∷ z)) ∙ ap (λ b. before ++ (b ++ joined s (y ∷ z))) same ∙ all;
              few = w;
              read = bytes;
            },
            refl,
          )

  pub at_next : (p : Place) (x : List ℕ) (g : IsGathered s l p x) → is_transfer (ccw s p.address) ≡ false → p.address ≡ g.at
  at_next p x g t = search rules

  pub advance : (p : Place) (x : List ℕ) (m : ℕ) (g : IsGathered s l p x) → is_transfer (ccw s p.address) ≡ false
      → m ≤ (ccw s p.address).count → Advance s l p (ccw s p.address) x m g.before
  advance p x m g t le = search (rules, at_next, gather_rest)

  -- a transfer leads to the chain's next CCW
  abbrev pub transfer_on : (p : Place) (x : List ℕ) → IsGathered s l p x → is_transfer (ccw s p.address) ≡ true
      → IsGathered s l (transferred_to (ccw s p.address).address p.entered) x
  transfer_on p x g t = record {
    before = g.before;
    rest = g.rest;
    at = g.at;
    leads = inl (go g.leads);
    chain = g.chain;
    all = g.all;
    few = g.few;
    read = g.read;
  }
    where
      go : ChainComesTo s p g.at → (ccw s p.address).address ≡ g.at
      go (inl e) = absurd (both_ways _ (part_is_no_transfer s p.address (subst (λ a. is_part s a ≡ true) (sym e) (chain_begins_with_part s _ _ _ g.chain))) t)
      go (inr e) = e.3

  -- where a seek begins
  abbrev pub begin : (p : Place) → IsChain s 6 p.address l → IsGathered s l p []
  begin p k = record { before = []; rest = l; at = p.address; leads = inl refl; chain = k; all = refl; few = omega arith; read = refl }
