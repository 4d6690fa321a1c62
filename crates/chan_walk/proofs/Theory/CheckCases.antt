-- The program check of a place, case by case.
use Rattle.chan_walk.proofs.Names.{[], ccw_at, ccw_at-some, false, Fields, first_reason, has_count, has_data_in, if◌then◌else◌, is_aligned, is_formed, is_inside, is_part, is_transfer, length, List, Misaligned, None, not, option_or, OutsideStorage, Place, program_check, program_check_of, refl, rules, Some, table_of_non_transfer, TransferNotAllowed, true, ℕ, ◌%◌, ◌&&◌, ◌∙◌, ◌∷◌, ◌≡◌}
use Rattle.std.specs.Bool.{then_some}
use Rattle.ccw_core.proofs.StorageLemmas.{is_aligned-true, is_aligned-false, ccw_at-none}

pub check-misaligned : (s : List ℕ) (p : Place) → (p.address % 8 ≡ 0 → ⊥) → program_check s p ≡ Some Misaligned
unfolding program_check_of
check-misaligned s p h = let a : is_aligned p.address ≡ false = is_aligned-false p.address h in rw a refl

pub check-outside : (s : List ℕ) (p : Place) → p.address % 8 ≡ 0 → ccw_at s p.address ≡ None → program_check s p ≡ Some OutsideStorage
unfolding program_check_of
check-outside s p h n = search (rules, is_aligned-true, ccw_at-none)

-- where a CCW stands, only its own bits are left to look at
pub check-found : (s : List ℕ) (p : Place) (c : Fields) → ccw_at s p.address ≡ Some c
    → program_check s p ≡ option_or (first_reason ((is_transfer c && p.after_transfer, TransferNotAllowed) ∷ []))
    (if is_transfer c then None else first_reason (table_of_non_transfer (length s) p c))
unfolding program_check_of
check-found s p c h = search rules

-- a CCW that was found gives bytes of an argument
pub found_is_part : (s : List ℕ) (a : ℕ) (c : Fields) → ccw_at s a ≡ Some c
    → is_part s a ≡ (not (is_transfer c) && is_formed c && has_count c && has_data_in (length s) c)
unfolding is_part
found_is_part s a c h = search (rules, ccw_at-some)

pub is_part-none : (s : List ℕ) (a : ℕ) → ccw_at s a ≡ None → is_part s a ≡ false
unfolding is_part
is_part-none s a h = let x : (is_aligned a && is_inside (length s) a) ≡ false = ccw_at-none s a h in rw x refl

-- a transfer in channel meets no check but that it may not follow another
pub check-transfer : (s : List ℕ) (p : Place) (c : Fields) → ccw_at s p.address ≡ Some c
    → is_transfer c ≡ true → program_check s p ≡ then_some p.after_transfer TransferNotAllowed
check-transfer s p c h t =
    check-found s p c h
    ∙ rw t (elim p.after_transfer as
    (λ b. option_or (first_reason ((true && b, TransferNotAllowed) ∷ [])) None ≡ then_some b TransferNotAllowed) [ true ↦ refl | false ↦ refl ])
