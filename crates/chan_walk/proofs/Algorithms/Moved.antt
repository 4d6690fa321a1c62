-- The data of reachable CCWs, place by place.
use Rattle.chan_walk.proofs.Names.{[], AddsBytes, ap, Area, AreReached, Bool, both_ways, ccw_at-some, ccw_of, data_of, end_of, Fields, inl, inr, is_aligned, is_inside, IsDataOf, IsLook, IsSeenByte, Job, length, lies_in, lies_in-cases, lies_in-first, lies_in-nil, List, Place, rules, same_Some, Seen, Some, storage_of, subst, sym, true, ℕ, ◌<◌, ◌↔◌, ◌∙◌, ◌∷◌, ◌≡◌, ◌≤◌, ◌⊎◌}
use Rattle.chan_walk.specs.Place.{data_at}
use Rattle.chan_walk.specs.Moved.{PassesTest}
use Rattle.chan_walk.proofs.Algorithms.Guarding.{HoldBytes}
use Rattle.chan_walk.proofs.Algorithms.Looking.{ccw_seen}

-- the CCW at p passes the test, and its data range has the byte at b
abbrev pub HasData : (Place → Fields → Bool) → Job → Place → ℕ → Type 0
HasData test j p b = PassesTest test j p × ((data_at j p).start ≤ b) × (b < end_of (data_at j p))

-- what was seen is the CCW that stands there
pub seen_at : (j : Job) (l : Seen) (c : Fields) → IsLook j l → l.ccw ≡ Some c
    → (is_aligned l.place.address ≡ true) × (is_inside (length (storage_of j)) l.place.address ≡ true) × (c ≡ ccw_of j l.place)
seen_at j l c look e = ccw_at-some (storage_of j) l.place.address c (sym look.ccw ∙ e)

pub adds_data : (test : Place → Fields → Bool) (j : Job) (l : Seen) (so : Bool) (old new : List Area) → IsLook j l
    → ((c : Fields) → l.ccw ≡ Some c → so ≡ test l.place c) → AddsBytes old new (IsSeenByte l so) → AddsBytes old new (HasData test j l.place)
adds_data test j l so old new look same adds b = ((λ h. to ((adds b).0 h)), λ h. (adds b).1 (from h))
  where
    to : (lies_in old b ≡ true) ⊎ IsSeenByte l so b → (lies_in old b ≡ true) ⊎ HasData test j l.place b
    to (inl h) = inl h
    to (inr h) =
        let at = seen_at j l h.ccw look h.seen in
        let is = at.2 in
        inr (
          ((at.0, at.1), ap (test l.place) (sym is) ∙ sym (same h.ccw h.seen) ∙ h.so),
          subst (λ (c : Fields). c.address ≤ b) is h.from,
          subst (λ c. b < end_of (data_of c)) is h.below,
        )

    from : (lies_in old b ≡ true) ⊎ HasData test j l.place b → (lies_in old b ≡ true) ⊎ IsSeenByte l so b
    from (inl h) = inl h
    from (inr h) =
        let seen = ccw_seen j l look h.0.0 in
        inr (record { ccw = ccw_of j l.place; seen = seen; so = same (ccw_of j l.place) seen ∙ h.0.1; from = h.1; below = h.2 })

-- over the reachable places
pub all_data : (test : Place → Fields → Bool) (j : Job) (ps : List Place) (areas : List Area) → AreReached j ps
    → HoldBytes (HasData test j) ps areas → (b : ℕ) → (lies_in areas b ≡ true) ↔ IsDataOf test j b
all_data test j ps areas r f b = search rules

-- the bytes of the data range of the CCW that was seen
pub seen_bytes : (l : Seen) (so : Bool) (c : Fields) → l.ccw ≡ Some c → so ≡ true → (b : ℕ) → (lies_in (data_of c ∷ []) b ≡ true) ↔ IsSeenByte l so b
seen_bytes l so c e s b = search (rules, lies_in-cases, both_ways, lies_in-nil, same_Some, lies_in-first)
