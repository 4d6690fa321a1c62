-- Places written one after the other.
use Rattle.std.proofs.Common.{◌≡◌, ◌<◌, ◌++◌, ℕ, zero, suc, Some, List, [], ◌∷◌, drop, length, map, take, set, slice_get, ap, sym, arith}

-- a place is written where those so far end
pub one_more : {X Y : Type 0} (f : X → Y) (xs : List X) (ys : List Y) (i : ℕ) (x : X) → slice_get xs i ≡ Some x → i < length ys
    → set (map f (take i xs) ++ drop i ys) i (f x) ≡ map f (take (suc i) xs) ++ drop (suc i) ys
one_more f [] ys i x is within = absurd cc
one_more f (z ∷ xs) [] i x is within = absurd (omega (arith, within))
one_more f (z ∷ xs) (y ∷ ys) zero x is within = let same : z ≡ x = cc in ap (λ w. f w ∷ ys) (sym same)
one_more f (z ∷ xs) (y ∷ ys) (suc i) x is within = let h : i < length ys = omega (arith, within) in ap (λ l. f z ∷ l) (one_more f xs ys i x is h)
