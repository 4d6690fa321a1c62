-- Decks that compare as equal are one.
use Rattle.chan_deck.proofs.Names.{and_parts, ap, Area, arith, bytes_eq-Decides, D2311, D2314, Decides, Device, eqb-true, DeckValue, List, One, refl, sym, true, Two, Version, ℕ, ◌&&◌, ◌∙◌, ◌≡◌}
use Rattle.std.specs.Prelude.{nat_eq}
use Rattle.std.proofs.lemmas.Bool.{eq-eqb, and_from}
use Rattle.std.proofs.lemmas.Slice.Eq.{slice_eq-Decides}
use Rattle.ckd_core.proofs.CylinderLemmas.{same_extents-decides}
use Rattle.ckd_core.specs.Extents.{same_extents}
use Rattle.chan_deck.specs.DeckValue.{version_number, limit_of}
use Rattle.chan_deck.specs.SameDecks.{model_of, same_areas, same_versions, same_decks, same_decks-IsEquivalence}

abbrev pair : ℕ → ℕ → ℕ × ℕ
pair a b = (a, b)

pair_is : (a b c d : ℕ) → a ≡ c → b ≡ d → pair a b ≡ pair c d
pair_is a b c d e f = ap (λ (x : ℕ). pair x b) e ∙ ap (λ (x : ℕ). pair c x) f

area_decides : (a b : Area) → Decides (nat_eq a.start b.start && nat_eq a.len b.len) (a ≡ b)
area_decides a b = (
  λ e.
      let t = and_parts (nat_eq a.start b.start) (nat_eq a.len b.len) e in
      ap (λ (p : ℕ × ℕ). record { start = p.0; len = p.1 }) (pair_is a.start a.len b.start b.len (eqb-true _ _ t.0) (eqb-true _ _ t.1)),
  λ e. and_from (nat_eq a.start b.start) (nat_eq a.len b.len) (eq-eqb _ _ (ap (λ (p : Area). p.start) e)) (eq-eqb _ _ (ap (λ (p : Area). p.len) e)),
)

pub same_areas_is : (xs ys : List Area) → same_areas xs ys ≡ true → xs ≡ ys
same_areas_is xs ys h = (slice_eq-Decides area_decides xs ys (same_areas xs ys) refl).0 h

one_model : (a b : Device) → model_of a ≡ model_of b → a ≡ b
one_model D2311 D2311 e = refl
one_model D2314 D2314 e = refl
one_model D2311 D2314 e = absurd (omega arith)
one_model D2314 D2311 e = absurd (omega arith)

one_version : (a b : Version) → version_number a ≡ version_number b → limit_of a ≡ limit_of b → a ≡ b
one_version One One n l = refl
one_version (Two a) (Two b) n l = ap Two l
one_version One (Two b) n l = absurd (omega arith)
one_version (Two a) One n l = absurd (omega arith)

pub same_is : (d e : DeckValue) → same_decks d e ≡ true → d ≡ e
same_is d e h =
    let v = and_parts (same_versions d.version e.version) _ h in
    let n = and_parts (nat_eq (version_number d.version) (version_number e.version)) _ v.0 in
    let a = and_parts (nat_eq (model_of d.device) (model_of e.device)) _ v.1 in
    let version : d.version ≡ e.version = one_version d.version e.version (eqb-true _ _ n.0) (eqb-true _ _ n.1) in
    let b = and_parts (nat_eq d.mask e.mask) _ a.1 in
    let c = and_parts (nat_eq d.start e.start) _ b.1 in
    let x = and_parts (same_extents d.extents e.extents) _ c.1 in
    let f = and_parts (same_areas d.fetch e.fetch) _ x.1 in
    let s = and_parts (same_areas d.store e.store) _ f.1 in
    let device : d.device ≡ e.device = one_model d.device e.device (eqb-true _ _ a.0) in
    let mask : d.mask ≡ e.mask = eqb-true _ _ b.0 in
    let start : d.start ≡ e.start = eqb-true _ _ c.0 in
    let extents : d.extents ≡ e.extents = (same_extents-decides d.extents e.extents).0 x.0 in
    let fetch : d.fetch ≡ e.fetch = same_areas_is d.fetch e.fetch f.0 in
    let store : d.store ≡ e.store = same_areas_is d.store e.store s.0 in
    let storage : d.storage ≡ e.storage = (bytes_eq-Decides d.storage e.storage).0 s.1 in
    ap (λ v. record d { version = v }) version ∙ ap (λ v. record d { version = e.version; device = v }) device
    ∙ ap (λ v. record d { version = e.version; device = e.device; mask = v }) mask
    ∙ ap (λ v. record d { version = e.version; device = e.device; mask = e.mask; start = v }) start
    ∙ ap (λ v. record e { extents = v; fetch = d.fetch; store = d.store; storage = d.storage }) extents
    ∙ ap (λ v. record e { fetch = v; store = d.store; storage = d.storage }) fetch
    ∙ ap (λ v. record e { store = v; storage = d.storage }) store ∙ ap (λ v. record e { storage = v }) storage

pub is_same : (d e : DeckValue) → d ≡ e → same_decks d e ≡ true
is_same d e h = ap (λ x. same_decks d x) (sym h) ∙ same_decks-IsEquivalence.refl d
