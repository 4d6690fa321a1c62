-- The first of addresses that rise is the least of them.
use Rattle.chan_why.proofs.Names.{[], arith, Has, inl, length, List, false, refl, subst, suc, sym, true, zero, ℕ, ◌<◌, ◌∷◌, ◌≡◌, ◌≤◌, ◌∙◌}
use Rattle.std.specs.Prelude.{◌==◌}
use Rattle.std.specs.List.{slice_index}
use Rattle.std.specs.List.Sorted.{IsStrictlyIncreasing}
use Rattle.std.proofs.lemmas.Bool.{eqb-true}
use Rattle.std.proofs.lemmas.Grind.{get_or_default_zero}
use Rattle.chan_walk.proofs.Theory.Lists.{has_contains}
use Rattle.chan_why.proofs.remarks.first_address.Goals as goal

least_at : (xs : List ℕ) → IsStrictlyIncreasing xs → (k : ℕ) → k < length xs → slice_index xs 0 ≤ slice_index xs k
least_at xs up zero l = omega arith
least_at xs up (suc k) l =
    let before : slice_index xs 0 ≤ slice_index xs k = least_at xs up k (omega arith) in
    let next : slice_index xs k < slice_index xs (suc k) = subst (λ i. slice_index xs k < slice_index xs i) (omega arith) (up k (omega arith)) in
    omega (arith, before, next)

least : (xs : List ℕ) → IsStrictlyIncreasing xs → (x : ℕ) → Has xs x → slice_index xs 0 ≤ x
least xs up x h =
    let (k, l, is) = has_contains xs x h in
    omega (arith, least_at xs up k l, get_or_default_zero xs k x l, is)

first : (xs : List ℕ) → (length xs == 0) ≡ false → Has xs (slice_index xs 0)
first [] e = absurd (cc)
first (x ∷ xs) e = inl refl

none : (xs : List ℕ) (x : ℕ) → (length xs == 0) ≡ true → Has xs x → ⊥
none [] x e h = h
none (y ∷ xs) x e h = omega (arith, eqb-true (length (y ∷ xs)) 0 e)

pub returns : goal.returns
returns c test j are =
    let xs = c.args.addresses.now in
    ((are.exactly _).0 (first xs (sym c.is_empty.ensures ∙ c.if-is_empty.false)), λ m p. least xs are.rising m ((are.exactly m).1 p))

pub returns-then-is_empty : goal.returns-then-is_empty
returns-then-is_empty c test j are = λ m p. none c.args.addresses.now m (sym c.is_empty.ensures ∙ c.if-is_empty.true) ((are.exactly m).1 p)
