-- The areas of a guard while they are gathered, place by place.
use Rattle.chan_walk.proofs.Names.{[], AddsBytes, All, ap, Area, AreExactly, AreReached, argument_addresses, arith, begins_seek, both_ways, byte_area, ccw_at, ccw_of, EndsBelow, Fields, Has, inl, inr, is_inside, is_some, IsArgumentByte, IsArgumentByteOf, IsCcwByte, IsCcwByteOf, IsChain, IsClear, IsSeekByteOf, Job, leb-true, length, lies_in, lies_in-cases, lies_in-first, lies_in-nil, List, map, Option, or_cases, or_left, or_right, Place, refl, rules, Stands, STORAGE_LIMIT, storage_of, subst, sym, true, ℕ, ◌++◌, ◌+◌, ◌^◌, ◌↔◌, ◌∙◌, ◌∷◌, ◌≡◌, ◌≤◌, ◌⊎◌}
use Rattle.chan_walk.proofs.Theory.Chains.{chain_unique}
use Rattle.chan_walk.proofs.Theory.Lists.{has_left, has_right, has_cases}
use Rattle.chan_areas.proofs.Merging.{lies_in-append, lies_in-rest, same_before}
use Rattle.chan_areas.specs.Merged.{HaveSameBytes}
use Rattle.std.proofs.Common.{append_assoc}
use Rattle.std.proofs.lemmas.List.{map-append}

-- the areas have exactly the bytes that are P's at some place of the list
abbrev pub HoldBytes : (Place → ℕ → Type 0) → List Place → List Area → Type 0
HoldBytes P ps areas = (b : ℕ) → (lies_in areas b ≡ true) ↔ ((p : Place) × Has ps p × P p b)

pub hold_none : (P : Place → ℕ → Type 0) (areas : List Area) → areas ≡ [] → HoldBytes P [] areas
hold_none P areas e b = ((λ h. absurd (both_ways (lies_in [] b) (lies_in-nil b) (ap (λ z. lies_in z b) (sym e) ∙ h))), λ h. absurd h.1)

pub low_none : (n : ℕ) (areas : List Area) → areas ≡ [] → All (EndsBelow n) areas
low_none n areas e = subst (All (EndsBelow n)) (sym e) (λ i d l. absurd (omega arith))

-- what holds at some place of the list, and what holds at some place of the list with one more
pub one_more : (P : Place → Type 0) (ps : List Place) (p : Place) (Old New : Type 0)
    → Old ↔ ((q : Place) × Has ps q × P q) → New ↔ (Old ⊎ P p) → New ↔ ((q : Place) × Has (ps ++ p ∷ []) q × P q)
one_more P ps p Old New f g = ((λ h. to (g.0 h)), λ r. from r.0 r.2 (has_cases ps (p ∷ []) r.0 r.1))
  where
    to : Old ⊎ P p → (q : Place) × Has (ps ++ p ∷ []) q × P q
    to (inl h) = let r = f.0 h in (r.0, has_left ps (p ∷ []) r.0 r.1, r.2)
    to (inr h) = (p, has_right ps (p ∷ []) p (inl refl), h)

    from : (q : Place) → P q → Has ps q ⊎ Has (p ∷ []) q → New
    from q h (inl m) = g.1 (inl (f.1 (q, m, h)))
    from q h (inr (inl e)) = g.1 (inr (subst P (sym e) h))
    from q h (inr (inr m)) = absurd m

-- one more place
pub hold_more : (P : Place → ℕ → Type 0) (ps : List Place) (p : Place) (old new : List Area)
    → HoldBytes P ps old → AddsBytes old new (P p) → HoldBytes P (ps ++ p ∷ []) new
hold_more P ps p old new f g b = one_more (λ q. P q b) ps p (lies_in old b ≡ true) (lies_in new b ≡ true) (f b) (g b)

-- at the end, in a list with the same bytes
pub hold_same : (P : Place → ℕ → Type 0) (some ps : List Place) (areas merged : List Area) → some ≡ ps
    → HoldBytes P some areas → AreExactly (λ b. lies_in areas b ≡ true) merged → HoldBytes P ps merged
hold_same P some ps areas merged e f g b = search rules

-- over the reachable places
pub ccw_bytes : (j : Job) (ps : List Place) (areas : List Area) → AreReached j ps
    → HoldBytes (IsCcwByteOf j) ps areas → (b : ℕ) → (lies_in areas b ≡ true) ↔ IsCcwByte j b
ccw_bytes j ps areas r f b = search rules

pub argument_bytes : (j : Job) (ps : List Place) (areas : List Area) → AreReached j ps
    → HoldBytes (IsArgumentByteOf j) ps areas → (b : ℕ) → (lies_in areas b ≡ true) ↔ IsArgumentByte j b
argument_bytes j ps areas r f b = search rules

-- ---- at one place

pub adds_areas : (old added new : List Area) (P : ℕ → Type 0) → HaveSameBytes new (old ++ added) → ((b : ℕ) → (lies_in added b ≡ true) ↔ P b)
    → AddsBytes old new P
adds_areas old added new P e f b = search (rules, or_cases, lies_in-append, or_left, or_right)

-- the eight bytes of a CCW
pub bytes_of_ccw : (j : Job) (p : Place) → Stands (storage_of j) p.address → (b : ℕ)
    → (lies_in ((record { start = p.address; len = 8 }) ∷ []) b ≡ true) ↔ IsCcwByteOf j p b
bytes_of_ccw j p s b = search (rules, lies_in-cases, lies_in-first, both_ways, lies_in-nil)

pub lies_in-bytes : (xs : List ℕ) (b : ℕ) → (lies_in (map byte_area xs) b ≡ true) ↔ Has xs b
lies_in-bytes [] b = ((λ h. absurd (both_ways (lies_in [] b) (lies_in-nil b) h)), λ h. absurd h)
lies_in-bytes (x ∷ xs) b = search (rules, lies_in-cases, lies_in-first, lies_in-rest, lies_in-bytes xs b)

pub adds_byte : (old now new : List Area) (xs : List ℕ) (x : ℕ) → HaveSameBytes now (old ++ map byte_area xs) → HaveSameBytes new (now ++ byte_area x ∷ [])
    → HaveSameBytes new (old ++ map byte_area (xs ++ x ∷ []))
adds_byte old now new xs x before here b =
    here b ∙ same_before now (old ++ map byte_area xs) (byte_area x ∷ []) b (before b)
    ∙ ap (λ z. lies_in z b) (append_assoc old (map byte_area xs) (byte_area x ∷ []) ∙ ap (λ z. old ++ z) (sym (map-append byte_area xs (x ∷ []))))

-- the argument at a place that begins a seek and has no own fault
pub bytes_of_argument : (j : Job) (p : Place) (l x : List ℕ) → begins_seek p (ccw_of j p) ≡ true → IsClear j p
    → IsChain (storage_of j) 6 p.address l → x ≡ argument_addresses (storage_of j) l → (b : ℕ) → Has x b ↔ IsSeekByteOf j p b
bytes_of_argument j p l x s f k e b = (
  (λ h. (f, record { seeks = s; chain = l; is_chain = k; has = subst (λ z. Has z b) e h })),
  λ h. subst (λ z. Has z b) (ap (argument_addresses (storage_of j)) (chain_unique (storage_of j) 6 p.address h.1.chain l h.1.is_chain k) ∙ sym e) h.1.has,
)

pub stands_from : (s : List ℕ) (a : ℕ) (o : Option Fields) → o ≡ ccw_at s a → is_some o ≡ true → Stands s a
stands_from s a o e h = search rules

pub stands_low : (s : List ℕ) (a : ℕ) → length s ≤ STORAGE_LIMIT → Stands s a → EndsBelow (2 ^ 32) (record { start = a; len = 8 })
unfolding is_inside
stands_low s a l h = let k = leb-true (a + 8) (length s) h.1 in omega arith
