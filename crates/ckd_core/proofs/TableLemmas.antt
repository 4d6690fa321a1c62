-- The command table: looking up in it, and what holds of each command that it gives.
use Rattle.std.proofs.Common.{◌≡◌, ℕ, true, false, nat_eq, cond, List, [], ◌∷◌, ◌++◌, Option, Some, None, refl, ap, sym, ◌∙◌}
use Rattle.std.specs.Option.{option_or}
use Rattle.ckd_core.specs.Command.{CommandEntry, lookup, find_code, class_passes}
use Rattle.ckd_core.specs.Mask.{inhibits, inhibits_class}

-- a list of entries that stands before another is searched first
pub find_code-append : (code : ℕ) (xs ys : List CommandEntry) → find_code code (xs ++ ys) ≡ option_or (find_code code xs) (find_code code ys)
find_code-append code [] ys = refl
find_code-append code (x ∷ xs) ys =
    elim (nat_eq x.code code) as (λ b. cond b (Some x) (find_code code (xs ++ ys)) ≡ option_or (cond b (Some x) (find_code code xs)) (find_code code ys)) [
      | true ↦ refl
      | false ↦ find_code-append code xs ys
    ]

-- what is found in a list is found in a longer one
pub found-append : (code : ℕ) (e : CommandEntry) (xs ys : List CommandEntry) → Some e ≡ find_code code xs → Some e ≡ find_code code (xs ++ ys)
found-append code e xs ys found = ap (λ (o : Option CommandEntry). option_or o (find_code code ys)) found ∙ sym (find_code-append code xs ys)

-- behind a list that hasn't the code the rest is searched
pub missed-append : (c : ℕ) (o : Option CommandEntry) (xs ys : List CommandEntry) → None ≡ find_code c xs → o ≡ find_code c ys → o ≡ find_code c (xs ++ ys)
missed-append code o xs ys missed found = found ∙ ap (λ (p : Option CommandEntry). option_or p (find_code code ys)) missed ∙ sym (find_code-append code xs ys)

-- a mask inhibits a code exactly where it inhibits its class
pub inhibits-class : (mask code : ℕ) (e : CommandEntry) → lookup code ≡ Some e → inhibits mask code ≡ inhibits_class mask e.class
unfolding inhibits
inhibits-class mask code e found = ap (class_passes (inhibits_class mask)) found
