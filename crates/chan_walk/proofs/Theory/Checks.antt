-- What it says of a place that it meets a program check, or none.
use Rattle.chan_walk.proofs.Names.{[], AllByRecursion, Bool, cases_Bool, ccw, cond, false, Fields, first_reason, has_count, has_data_in, if◌then◌else◌, is_aligned, is_formed, is_fresh, is_inside, is_part, is_transfer, leb-true, length, List, None, Option, option_or, Place, program_check, program_check_of, Reason, refl, rules, Some, Stands, table_of_every_ccw, table_of_non_transfer, TransferNotAllowed, true, ℕ, ◌+◌, ◌∷◌, ◌≡◌, ◌≤◌, ◌⊎◌}

pub cond_none : (b : Bool) (r : Reason) (o : Option Reason) → cond b (Some r) o ≡ None → (b ≡ false) × (o ≡ None)
cond_none b r o h = search rules

pub both_none : (a b : Option Reason) → option_or a b ≡ None → (a ≡ None) × (b ≡ None)
both_none a b h = search rules

or_some : (a b : Option Reason) (r : Reason) → option_or a b ≡ Some r → (a ≡ Some r) ⊎ ((a ≡ None) × (b ≡ Some r))
or_some a b r h = search rules

-- for the first reason of a table P follows from its test, where the tests before it are false
abbrev pub Cases : (Reason → Type 0) → List (Bool × Reason) → Type 0
Cases P [] = Unit {0}
Cases P (e ∷ es) = (e.0 ≡ true → P e.1) × (e.0 ≡ false → Cases P es)

pub first_case : (P : Reason → Type 0) (ts : List (Bool × Reason)) (r : Reason) → Cases P ts → first_reason ts ≡ Some r → P r
first_case P [] r c h = absurd (cc)
first_case P (e ∷ es) r c h = search (rules, first_case P es r)

-- where P doesn't depend on the tests
pub each_case : (P : Reason → Type 0) (ts : List (Bool × Reason)) → AllByRecursion (λ e. P e.1) ts → Cases P ts
each_case P [] h = tt
each_case P (e ∷ es) h = (λ _. h.0, λ _. each_case P es h.1)

-- a reason that holds over two tables, the second for a CCW that is no transfer
pub table_case : (P : Reason → Type 0) (a : Option Reason) (z : Bool) (ts : List (Bool × Reason)) (r : Reason)
    → (a ≡ Some r → P r) → (a ≡ None → z ≡ false → Cases P ts) → option_or a (if z then None else first_reason ts) ≡ Some r → P r
table_case P a z ts r f g h = search (rules, or_some, first_case)

pub check_case : (P : Reason → Type 0) (s : List ℕ) (p : Place) (r : Reason) → Cases P (table_of_every_ccw (length s) p (ccw s p.address))
    → Cases P (table_of_non_transfer (length s) p (ccw s p.address)) → program_check s p ≡ Some r → P r
unfolding program_check_of
check_case P s p r a b h =
    table_case P _ (is_transfer (ccw s p.address)) (table_of_non_transfer (length s) p (ccw s p.address)) r
    (first_case P (table_of_every_ccw (length s) p (ccw s p.address)) r a) (λ n e. b) h

pub check_stands : (s : List ℕ) (p : Place) → program_check s p ≡ None → Stands s p.address
unfolding program_check_of
check_stands s p h = search rules

-- a CCW that is no transfer and meets no program check
pub record Passed (s : List ℕ) (p : Place) : Type 0 where
  pub formed : is_formed (ccw s p.address) ≡ true
  pub counted : has_count (ccw s p.address) ≡ true
  pub data_in : has_data_in (length s) (ccw s p.address) ≡ true

pub passed : (s : List ℕ) (p : Place) → program_check s p ≡ None → is_transfer (ccw s p.address) ≡ false → Passed s p
unfolding program_check_of
passed s p h t = search rules

pub data_fits : (n : ℕ) (c : Fields) → has_data_in n c ≡ true → c.address + c.count ≤ n
unfolding has_data_in
data_fits n c h = leb-true _ _ h

pub passed_is_part : (s : List ℕ) (p : Place) → program_check s p ≡ None → is_transfer (ccw s p.address) ≡ false → is_part s p.address ≡ true
unfolding is_part
passed_is_part s p h t = search (rules, check_stands, passed)

pub part_passes : (s : List ℕ) (p : Place) → is_part s p.address ≡ true → is_fresh p.entered ≡ false → program_check s p ≡ None
unfolding is_part program_check_of
part_passes s p h f = search rules

second_checked : (s : List ℕ) (p : Place) → Stands s p.address → p.after_transfer ≡ true
    → is_transfer (ccw s p.address) ≡ true → program_check s p ≡ Some TransferNotAllowed
unfolding program_check_of
second_checked s p st b t = let a0 : is_aligned p.address ≡ true = st.0 in let a1 : is_inside (length s) p.address ≡ true = st.1 in rw (a0, a1, t, b) refl

-- a transfer never follows a transfer without a program check
pub no_second_transfer : (s : List ℕ) (p : Place) → program_check s p ≡ None → p.after_transfer ≡ true → is_transfer (ccw s p.address) ≡ false
no_second_transfer s p h b = search (rules, cases_Bool, second_checked, check_stands)

pub transfer_passes : (s : List ℕ) (p : Place) → Stands s p.address → is_transfer (ccw s p.address) ≡ true → p.after_transfer ≡ false → program_check s p ≡ None
unfolding program_check_of
transfer_passes s p st t b = let a0 : is_aligned p.address ≡ true = st.0 in let a1 : is_inside (length s) p.address ≡ true = st.1 in rw (a0, a1, t, b) refl
