-- When two decks are equal: field by field.
use Rattle.std.specs.Prelude.{ℕ, Bool, List, nat_eq}
use Rattle.std.specs.Cmp.{IsEquivalence, on_equiv, and_equiv, nat_eq_equiv}
use Rattle.std.specs.Cmp.Lexicographic.{pointwise, lists_equiv}
use Rattle.std.specs.Ordering.{on, eq_of_both}
use Rattle.ccw_core.specs.declared.areas.Area.{Area}
use Rattle.ckd_core.specs.Extents.{same_extents, same_extents-IsEquivalence}
use Rattle.ckd_core.specs.declared.device.Device.{Device}
use Rattle.ckd_core.specs.declared.device.Device.TheVariants.{D2311, D2314}
use Rattle.chan_deck.specs.DeckValue.{DeckValue, version_number, limit_of}
use Rattle.chan_deck.specs.declared.version.Version.{Version}

-- the same number and limit
abbrev pub same_versions : Version → Version → Bool
same_versions = eq_of_both (on version_number nat_eq) (on limit_of nat_eq)

-- the number of the device's model
abbrev pub model_of : Device → ℕ
model_of D2311 = 2311
model_of D2314 = 2314

abbrev pub same_areas : List Area → List Area → Bool
same_areas = pointwise (eq_of_both (on (λ a. a.start) nat_eq) (on (λ a. a.len) nat_eq))

-- the same version with its limit, device, mask, start, extents, areas and storage
abbrev pub same_decks : DeckValue → DeckValue → Bool
same_decks =
    eq_of_both (on (λ d. d.version) same_versions)
    (eq_of_both (on (λ d. model_of d.device) nat_eq)
    (eq_of_both (on (λ d. d.mask) nat_eq)
    (eq_of_both (on (λ d. d.start) nat_eq)
    (eq_of_both (on (λ d. d.extents) same_extents)
    (eq_of_both (on (λ d. d.fetch) same_areas)
    (eq_of_both (on (λ d. d.store) same_areas) (on (λ d. d.storage) (pointwise nat_eq))))))))

pub same_versions-IsEquivalence : IsEquivalence same_versions
same_versions-IsEquivalence =
    let number : Version → ℕ = λ v. version_number v in
    let limit : Version → ℕ = λ v. limit_of v in
    and_equiv (on_equiv number nat_eq_equiv) (on_equiv limit nat_eq_equiv)

pub same_areas-IsEquivalence : IsEquivalence same_areas
same_areas-IsEquivalence =
    let start : Area → ℕ = λ a. a.start in
    let len : Area → ℕ = λ a. a.len in
    lists_equiv (and_equiv (on_equiv start nat_eq_equiv) (on_equiv len nat_eq_equiv))

pub same_decks-IsEquivalence : IsEquivalence same_decks
same_decks-IsEquivalence =
    let version : DeckValue → Version = λ d. d.version in
    let device : DeckValue → ℕ = λ d. model_of d.device in
    let mask : DeckValue → ℕ = λ d. d.mask in
    let start : DeckValue → ℕ = λ d. d.start in
    let extents : DeckValue → List (ℕ × ℕ) = λ d. d.extents in
    let fetch : DeckValue → List Area = λ d. d.fetch in
    let store : DeckValue → List Area = λ d. d.store in
    let storage : DeckValue → List ℕ = λ d. d.storage in
    and_equiv (on_equiv version same_versions-IsEquivalence)
    (and_equiv (on_equiv device nat_eq_equiv)
    (and_equiv (on_equiv mask nat_eq_equiv)
    (and_equiv (on_equiv start nat_eq_equiv)
    (and_equiv (on_equiv extents same_extents-IsEquivalence)
    (and_equiv (on_equiv fetch same_areas-IsEquivalence)
    (and_equiv (on_equiv store same_areas-IsEquivalence)
    (on_equiv storage (lists_equiv nat_eq_equiv))))))))
