-- What the answers of a supervisor's calls name is the first of its kind.
use Rattle.chan_needs.proofs.Names.{[], AllWithin, ap, Area, arith, cases_lt, drop, inl, inr, IsFirstChanged, IsFirstChangedIn, IsInFlightAt, IsLeastOf, KeepsNone, List, listed_in, None, Option, refl, Remembered, Some, subst, sym, ℕ, ◌+◌, ◌<◌, ◌∙◌, ◌∷◌, ◌≡◌, ◌≤◌, ◌⊎◌}
use Rattle.std.specs.Prelude.{slice_index_or}
use Rattle.chan_needs.proofs.Remembering.{at_number}
use Rattle.chan_needs.specs.History.{GoesOnToStorage}
use Rattle.chan_needs.specs.Remembered.{IsKeeperOf, NamedIsFirst}
use Rattle.chan_needs.specs.Listed.{IsKeptIn}

pub goes_on_to_storage : GoesOnToStorage
goes_on_to_storage history t goes = goes

pub same_number : (m n : ℕ) → m ≤ n → n ≤ m → m ≡ n
same_number m n up down = omega (arith, up, down)

-- ---- the keeper

-- no program before number i keeps a byte of the area, so one that does has no smaller number
not_before : (fs : List Remembered) (a : Area) (i j b : ℕ) (f : Remembered)
    → AllWithin (KeepsNone a) fs 0 i → IsInFlightAt fs j f → IsKeptIn (listed_in f.needs) a b → i ≤ j
not_before fs a i j b f none at kept = go (cases_lt j i)
  where
    go : (j < i) ⊎ (i ≤ j) → i ≤ j
    go (inl before) = absurd (subst (KeepsNone a) (at.1 f) (none j f (omega arith) before) b kept)
    go (inr after) = after

pub same_program : (fs : List Remembered) (i j : ℕ) (f g : Remembered) → i ≡ j → IsInFlightAt fs i f → IsInFlightAt fs j g → f ≡ g
same_program fs i j f g same at there = sym (at.1 f) ∙ subst (λ k. slice_index_or fs k f ≡ g) (sym same) (there.1 f)

pub least_is_one : {P : ℕ → Type 0} {b c : ℕ} → IsLeastOf P b → IsLeastOf P c → b ≡ c
least_is_one {b = b} {c = c} one other = same_number b c (one.1 c other.0) (other.1 b one.0)

one_keeper : (fs : List Remembered) (a : Area) (i j b c : ℕ) → IsKeeperOf fs a (Some (i, b)) → IsKeeperOf fs a (Some (j, c)) → (i ≡ j) × (b ≡ c)
one_keeper fs a i j b c one other =
    let same : i ≡ j = same_number i j (not_before fs a i j c other.0 one.2 other.1 other.3.0) (not_before fs a j i b one.0 other.2 one.1 one.3.0) in
    let program = same_program fs i j one.0 other.0 same one.1 other.1 in
    (same, least_is_one (subst (λ (f : Remembered). IsLeastOf (IsKeptIn (listed_in f.needs) a) b) program one.3) other.3)

pub one_write : (fs : List Remembered) (a : Area) (one other : Option (ℕ × ℕ)) → IsKeeperOf fs a one → IsKeeperOf fs a other → one ≡ other
one_write fs a None None h k = refl
one_write fs a None (Some (j, c)) h k = absurd (at_number (KeepsNone a) fs j k.0 h k.1 c k.3.0)
one_write fs a (Some (i, b)) None h k = absurd (at_number (KeepsNone a) fs i h.0 k h.1 b h.3.0)
one_write fs a (Some (i, b)) (Some (j, c)) h k = let same = one_keeper fs a i j b c h k in rw (same.0, same.1) refl

-- ---- the byte that has changed

-- each byte of an area before its first changed one holds, so another changed byte comes no earlier
not_earlier : (s : List ℕ) (a : Area) (kept : List ℕ) (b c : ℕ) (one : IsFirstChangedIn s a kept b) (other : IsFirstChangedIn s a kept c)
    → one.number ≤ other.number
not_earlier s a kept b c one other = go (cases_lt other.number one.number)
  where
    go : (other.number < one.number) ⊎ (one.number ≤ other.number) → one.number ≤ other.number
    go (inl before) = absurd (other.changed (one.before other.number before))
    go (inr after) = after

one_byte : (s : List ℕ) (a : Area) (kept : List ℕ) (b c : ℕ) → IsFirstChangedIn s a kept b → IsFirstChangedIn s a kept c → b ≡ c
one_byte s a kept b c one other =
    one.at ∙ ap (λ n. a.start + n) (same_number _ _ (not_earlier s a kept b c one other) (not_earlier s a kept c b other one)) ∙ sym other.at

pub one_changed : (s : List ℕ) (areas : List Area) (kept : List ℕ) (b c : ℕ) → IsFirstChanged s areas kept b → IsFirstChanged s areas kept c → b ≡ c
one_changed s [] kept b c one other = absurd one
one_changed s (a ∷ areas) kept b c (inl one) (inl other) = one_byte s a kept b c one other
one_changed s (a ∷ areas) kept b c (inr one) (inr other) = one_changed s areas (drop a.len kept) b c one.1 other.1
one_changed s (a ∷ areas) kept b c (inl one) (inr other) = absurd (one.changed (other.0 one.number one.within))
one_changed s (a ∷ areas) kept b c (inr one) (inl other) = absurd (other.changed (one.0 other.number other.within))

pub named_is_first : NamedIsFirst
named_is_first = record { keeper = one_write; changed = one_changed }
