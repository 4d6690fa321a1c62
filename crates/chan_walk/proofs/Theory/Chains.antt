-- Chains of CCWs that give the bytes of an argument: there is one or there is none, and there is at most one.
use Rattle.chan_walk.proofs.Names.{[], and_from, ap, AreLinked, argument, arith, BeginsAt, both_ways, cases_Bool, cases_lt, ccw, ChainLeads, chains_data, false, has_count, HasArgument, inl, inr, is_part, is_transfer, IsChain, List, None, onward, Option, refl, rules, Some, subst, suc, sym, true, zero, ℕ, ◌-◌, ◌<◌, ◌∙◌, ◌∷◌, ◌≡◌, ◌≤◌, ◌⊎◌}

pub part_is_no_transfer : (s : List ℕ) (a : ℕ) → is_part s a ≡ true → is_transfer (ccw s a) ≡ false
unfolding is_part
part_is_no_transfer s a h = search rules

pub part_counts : (s : List ℕ) (a : ℕ) → is_part s a ≡ true → 0 < (ccw s a).count
unfolding is_part has_count
part_counts s a h = search rules

first_is_part : (s : List ℕ) (a : ℕ) (l : List ℕ) → BeginsAt a l → AreLinked s l → is_part s a ≡ true
first_is_part s a l b h = search rules

pub chain_begins_with_part : (s : List ℕ) (n a : ℕ) (l : List ℕ) → IsChain s n a l → is_part s a ≡ true
chain_begins_with_part s n a l k = first_is_part s a l k.begins k.linked

pub chain_tail : (s : List ℕ) (n a b d : ℕ) (l : List ℕ) → IsChain s n a (b ∷ d ∷ l) → IsChain s (n - (ccw s b).count) d (d ∷ l)
chain_tail s n a b d l k = search rules

pub chain_cons : (s : List ℕ) (n a b : ℕ) (l : List ℕ) → is_part s a ≡ true → chains_data (ccw s a) ≡ true
    → ChainLeads s a b → (ccw s a).count < n → IsChain s (n - (ccw s a).count) b l → IsChain s n a (a ∷ l)
chain_cons s n a b l h cd to lt k = search rules

pub onward_leads : (s : List ℕ) (a : ℕ) → ChainLeads s a (onward s a)
onward_leads s a = search rules

pub onward_only : (s : List ℕ) (a b : ℕ) → ChainLeads s a b → is_part s b ≡ true → b ≡ onward s a
onward_only s a b k h = search (rules, part_is_no_transfer, and_from)

-- there is a chain of n bytes from a, or there is none
abbrev IsDecided : List ℕ → ℕ → ℕ → Type 0
IsDecided s n a = ((l : List ℕ) × IsChain s n a l) ⊎ ((l : List ℕ) → IsChain s n a l → ⊥)

-- which of the two is so can be told
pub chain_decides : (fuel : ℕ) (s : List ℕ) (n a : ℕ) → n ≤ fuel → 0 < n → ((l : List ℕ) × IsChain s n a l) ⊎ ((l : List ℕ) → IsChain s n a l → ⊥)
chain_decides zero s n a h p = absurd (omega arith)
chain_decides (suc fuel) s n a h p =
    go (cases_Bool (is_part s a)) (cases_lt (ccw s a).count n) (cases_Bool (chains_data (ccw s a)))
    (λ c lt. chain_decides fuel s (n - (ccw s a).count) (onward s a) (omega arith) (omega arith))
  where
    more : chains_data (ccw s a) ≡ true → is_part s a ≡ true → (ccw s a).count < n
        → IsDecided s (n - (ccw s a).count) (onward s a) → IsDecided s n a
    more cd part lt (inl r) = inl (a ∷ r.0, chain_cons s n a (onward s a) r.0 part cd (onward_leads s a) lt r.1)
    more cd part lt (inr r) = inr (λ l k. none l k)
      where
        none : (l : List ℕ) → IsChain s n a l → ⊥
        none l k = search (rules, chain_tail, onward_only, chain_begins_with_part)

    short : is_part s a ≡ true → (ccw s a).count < n → chains_data (ccw s a) ≡ false → (l : List ℕ) → IsChain s n a l → ⊥
    short part lt cd l k = search (rules, both_ways)

    go : (is_part s a ≡ true) ⊎ (is_part s a ≡ false) → ((ccw s a).count < n) ⊎ (n ≤ (ccw s a).count)
        → (chains_data (ccw s a) ≡ true) ⊎ (chains_data (ccw s a) ≡ false)
        → (0 < (ccw s a).count → (ccw s a).count < n → IsDecided s (n - (ccw s a).count) (onward s a)) → IsDecided s n a
    go (inr is) lt cd rec = inr (λ l k. both_ways _ is (chain_begins_with_part s n a l k))
    go (inl is) (inr le) cd rec = inl (a ∷ [], record { begins = refl; linked = is; short = p; enough = omega arith })
    go (inl is) (inl lt) (inl cd) rec = more cd is lt (rec (part_counts s a is) lt)
    go (inl is) (inl lt) (inr cd) rec = inr (short is lt cd)

pub argument_exists : (s : List ℕ) (a : ℕ) → (x : Option (List ℕ)) × HasArgument s a x
argument_exists s a = go (chain_decides 6 s 6 a (omega arith) (omega arith))
  where
    go : ((l : List ℕ) × IsChain s 6 a l) ⊎ ((l : List ℕ) → IsChain s 6 a l → ⊥) → (x : Option (List ℕ)) × HasArgument s a x
    go (inl r) = (Some (argument s r.0), (r.0, r.1, refl))
    go (inr r) = (None, r)

-- ---- there is at most one

pub chain_unique : (s : List ℕ) (n a : ℕ) (l m : List ℕ) → IsChain s n a l → IsChain s n a m → l ≡ m
chain_unique s n a [] m k h = elim k.begins [ ]
chain_unique s n a (x ∷ l) [] k h = elim h.begins [ ]
chain_unique s n a (x ∷ []) (y ∷ []) k h = let e : x ≡ y = k.begins ∙ sym h.begins in ap (λ z. z ∷ []) e
chain_unique s n a (x ∷ []) (y ∷ z ∷ m) k h = search rules
chain_unique s n a (x ∷ d ∷ l) (y ∷ []) k h = search rules
chain_unique s n a (x ∷ d ∷ l) (y ∷ z ∷ m) k h =
    let e : y ≡ x = h.begins ∙ sym k.begins in
    let left = chain_tail s n a x d l k in
    let right = chain_tail s n a y z m h in
    let f = onward_only s x d k.linked.2 (chain_begins_with_part s _ d (d ∷ l) left) in
    let g = onward_only s x z (subst (λ b. ChainLeads s b z) e h.linked.2) (chain_begins_with_part s _ z (z ∷ m) right) in
    let right' = subst (λ b. IsChain s (n - (ccw s b).count) z (z ∷ m)) e right in
    let same = chain_unique s (n - (ccw s x).count) d (d ∷ l) (z ∷ m) left (subst (λ b. IsChain s (n - (ccw s x).count) b (z ∷ m)) (g ∙ sym f) right') in
    ap (λ b. b ∷ d ∷ l) (sym e) ∙ ap (λ b. y ∷ b) same

pub argument_unique : (s : List ℕ) (a : ℕ) (x y : Option (List ℕ)) → HasArgument s a x → HasArgument s a y → x ≡ y
argument_unique s a None None h k = refl
argument_unique s a None (Some y) h k = absurd (h k.0 k.1)
argument_unique s a (Some x) None h k = absurd (k h.0 h.1)
argument_unique s a (Some x) (Some y) h k = let e = chain_unique s 6 a h.0 k.0 h.1 k.1 in ap Some (h.2 ∙ ap (argument s) e ∙ sym k.2)
