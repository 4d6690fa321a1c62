-- The whole table of own faults: its first reason is the own fault, and its numbers increase.
use Rattle.chan_walk.proofs.Names.{[], ap, append-nil, arith, Bool, ccw_of, false, Fields, first_reason, if◌then◌else◌, is_transfer, IsStrictlyIncreasing, length, List, None, Option, option_or, program_check_of, Reason, rules, slice_index, storage_of, subst, suc, sym, table_of_every_ccw, table_of_non_transfer, table_of_own, true, zero, ℕ, ◌++◌, ◌+◌, ◌<◌, ◌∙◌, ◌∷◌, ◌≡◌}
use Rattle.chan_walk.specs.Order.{numbers_of, NumbersIncrease}
use Rattle.chan_walk.proofs.Theory.OwnFaults.{first_reason-append}

-- each number is below the next
abbrev Rises : List ℕ → Type 0
Rises [] = Unit {0}
Rises (n ∷ []) = Unit {0}
Rises (n ∷ m ∷ ms) = (n < m) × Rises (m ∷ ms)

increasing : (ns : List ℕ) → Rises ns → IsStrictlyIncreasing ns
increasing [] h k l = absurd (omega arith)
increasing (n ∷ []) h k l = absurd (omega arith)
increasing (n ∷ m ∷ ms) h zero l = h.0
increasing (n ∷ m ∷ ms) h (suc k) l =
    let e : suc (k + 1) ≡ suc k + 1 = omega arith in
    subst (λ i. slice_index (m ∷ ms) k < slice_index (n ∷ m ∷ ms) i) e (increasing (m ∷ ms) h.1 k (omega arith))

or_assoc : (a b c : Option Reason) → option_or (option_or a b) c ≡ option_or a (option_or b c)
or_assoc a b c = search rules

or_none : (a : Option Reason) → option_or a None ≡ a
or_none a = search rules

pub numbers_increase : NumbersIncrease
unfolding program_check_of
numbers_increase j p x = (same (is_transfer c), rises (is_transfer c))
  where
    c : Fields
    c = ccw_of j p

    any : List (Bool × Reason)
    any = table_of_every_ccw (length (storage_of j)) p (ccw_of j p)

    ccw : List (Bool × Reason)
    ccw = table_of_non_transfer (length (storage_of j)) p (ccw_of j p)

    own : List (Bool × Reason)
    own = table_of_own j p (ccw_of j p) x

    same : (b : Bool) → option_or (option_or (first_reason any) (if b then None else first_reason ccw)) (if b then None else first_reason own)
        ≡ first_reason (any ++ (if b then [] else ccw ++ own))
    same true = or_none (option_or (first_reason any) None) ∙ or_none (first_reason any) ∙ ap first_reason (sym (append-nil any))
    same false =
        or_assoc (first_reason any) (first_reason ccw) (first_reason own)
        ∙ ap (option_or (first_reason any)) (sym (first_reason-append ccw own)) ∙ sym (first_reason-append any (ccw ++ own))

    rises : (b : Bool) → IsStrictlyIncreasing (numbers_of (any ++ (if b then [] else ccw ++ own)))
    rises true = increasing (numbers_of (any ++ [])) (search rules)
    rises false = increasing (numbers_of (any ++ ccw ++ own)) (search rules)
