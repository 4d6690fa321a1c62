-- Notes: the addresses of CCWs that pass a test.
use Rattle.chan_why.proofs.Names.{[], ap, AreReached, Bool, ccw_of, ccw_seen, chains_data, ends_there, Entry, eqb, false, Fields, Has, has_push, Idle, inl, inr, is_fresh, is_idle, is_known, is_transfer, IsLook, Job, Kind, kind_of, kind_of_command, List, lookup, moves_nothing, next_of, None, Option, Outward, Place, refl, rules, Seen, Some, subst, sym, true, ℕ, ◌&&◌, ◌++◌, ◌↔◌, ◌∙◌, ◌∷◌, ◌≡◌, ◌⊎◌}
use Rattle.std.proofs.Common.{IsTrue, is_some}
use Rattle.std.specs.List.{dedup}
use Rattle.std.specs.List.Sorted.{IsPermutation, IsStrictlyIncreasing}
use Rattle.std.proofs.lemmas.Bool.{and_parts}
use Rattle.std.proofs.lemmas.List.Kept.{Contains-dedup_nat, Contains-from_dedup}
use Rattle.std.proofs.lemmas.List.Sorted.{Contains-permutation, IsPermutation-sym}
use Rattle.ckd_core.specs.declared.command.Kind.TheVariants.{Inward, Search}
use Rattle.ckd_core.specs.Command.{CommandEntry}
use Rattle.chan_why.specs.Notes.{AddsAddress, AreAddressesOf, HasNoSuccessor, IsSeenWith, NothingFollows}
use Rattle.chan_walk.specs.Moved.{PassesTest}
use Rattle.chan_walk.proofs.Algorithms.Moved.{seen_at}
use Rattle.chan_why.proofs.Idle.{idle_is_no_transfer}
use Rattle.chan_walk.proofs.Algorithms.Guarding.{one_more}
use Rattle.chan_walk.proofs.Theory.Lists.{contains_has, has_contains}

-- ---- addresses, place by place

-- a is the address of p, whose CCW passes the test
abbrev pub HasAddress : (Place → Fields → Bool) → Job → Place → ℕ → Type 0
HasAddress test j p a = PassesTest test j p × (p.address ≡ a)

-- the list has exactly these addresses of the places
abbrev pub HoldAddresses : (ℕ → Type 0) → (Place → ℕ → Type 0) → List Place → Type 0
HoldAddresses In P ps = (a : ℕ) → In a ↔ ((p : Place) × Has ps p × P p a)

pub addresses_none : (P : Place → ℕ → Type 0) (xs : List ℕ) → xs ≡ [] → HoldAddresses (Has xs) P []
addresses_none P xs e a = ((λ h. absurd (subst (λ z. Has z a) e h)), λ h. absurd h.1)

pub addresses_more : (P : Place → ℕ → Type 0) (ps : List Place) (p : Place) (old new : List ℕ)
    → HoldAddresses (Has old) P ps → ((a : ℕ) → Has new a ↔ (Has old a ⊎ P p a)) → HoldAddresses (Has new) P (ps ++ p ∷ [])
addresses_more P ps p old new f g a = one_more (λ q. P q a) ps p (Has old a) (Has new a) (f a) (g a)

pub adds_address : (test : Place → Fields → Bool) (j : Job) (l : Seen) (so : Bool) (old new : List ℕ) → IsLook j l
    → IsTrue so ↔ IsSeenWith test l → AddsAddress so l.place.address old new → (a : ℕ) → Has new a ↔ (Has old a ⊎ HasAddress test j l.place a)
adds_address test j l so old new look same adds a = ((λ h. to ((adds a).0 h)), λ h. (adds a).1 (from h))
  where
    to : Has old a ⊎ (IsTrue so × (l.place.address ≡ a)) → Has old a ⊎ HasAddress test j l.place a
    to (inl h) = inl h
    to (inr h) =
        let w = same.0 h.0 in
        let at = seen_at j l w.0 look w.1 in
        inr (((at.0, at.1), ap (test l.place) (sym at.2) ∙ w.2), h.1)

    from : Has old a ⊎ HasAddress test j l.place a → Has old a ⊎ (IsTrue so × (l.place.address ≡ a))
    from (inl h) = inl h
    from (inr h) = inr (same.1 (ccw_of j l.place, ccw_seen j l look h.0.0, h.0.1), h.1)

-- over the reachable places, each once
pub all_addresses : (test : Place → Fields → Bool) (j : Job) (some ps : List Place) (xs ys : List ℕ) → some ≡ ps → AreReached j ps
    → HoldAddresses (Has xs) (HasAddress test j) some → IsStrictlyIncreasing ys → ((a : ℕ) → Has ys a ↔ Has xs a) → AreAddressesOf test j ys
all_addresses test j some ps xs ys e r f up same = search rules

-- sorted, and each once
pub same_once : (xs ys : List ℕ) (a : ℕ) → IsPermutation xs ys → Has (dedup eqb ys) a ↔ Has xs a
same_once xs ys a moved = (
  (λ h. contains_has xs a (Contains-permutation ys xs a (IsPermutation-sym xs ys moved) (Contains-from_dedup eqb ys a (has_contains (dedup eqb ys) a h)))),
  λ h. contains_has (dedup eqb ys) a (Contains-dedup_nat ys a (Contains-permutation xs ys a moved (has_contains xs a h))),
)

-- ---- at one look

-- one address more
pub address_added : (so : Bool) (here a : ℕ) (old new : List ℕ) → so ≡ true → here ≡ a → new ≡ old ++ here ∷ [] → AddsAddress so a old new
address_added so here a old new s e n b = search (rules, has_push)

-- ---- where a program ends

fresh_kind : (e : Entry) (c : Fields) → is_fresh e ≡ true → kind_of e c ≡ kind_of_command (lookup c.command)
fresh_kind e c h = search rules

nothing_after : (p : Place) (c : Fields) → ends_there p c ≡ true → HasNoSuccessor p c
nothing_after p c h = search (rules, and_parts, idle_is_no_transfer, fresh_kind)

all_three : {a b c : Bool} → a ≡ true → b ≡ true → c ≡ true → a && b && c ≡ true
all_three p q r = search rules

-- a kind that nothing follows with chain data on moves no data
idle_without_next : (p : Place) (c : Fields) (k : Kind) → is_transfer c ≡ false → chains_data c ≡ true → next_of p c k ≡ None → moves_nothing k ≡ true
idle_without_next p c Idle t d n = refl
idle_without_next p c Inward t d n = absurd (cc)
idle_without_next p c Outward t d n = absurd (cc)
idle_without_next p c Search t d n = absurd (cc)

idle_if_known : (p : Place) (c : Fields) (o : Option CommandEntry) → is_some o ≡ true → is_transfer c ≡ false
    → chains_data c ≡ true → next_of p c (kind_of_command o) ≡ None → is_idle o ≡ true
idle_if_known p c None k t d n = absurd (cc)
idle_if_known p c (Some e) k t d n = idle_without_next p c e.kind t d n

ends_without : (p : Place) (c : Fields) → is_fresh p.entered ≡ true → is_known c.command ≡ true
    → is_transfer c ≡ false → chains_data c ≡ true → HasNoSuccessor p c → ends_there p c ≡ true
ends_without p c f k t d n =
    all_three f (idle_if_known p c (lookup c.command) k t d (subst (λ q. next_of p c q ≡ None) (fresh_kind p.entered c f) n.0)) d

pub nothing_follows : NothingFollows
nothing_follows p c = (nothing_after p c, ends_without p c)
