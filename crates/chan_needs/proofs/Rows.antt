-- What holds of rows holds of what they stand for, number by number.
use Rattle.chan_needs.proofs.Names.{All, AllWithin, get_or, IsInFlightAt, length, List, map, Remembered, subst, sym, ℕ, ◌<◌, ◌≡◌, ◌≤◌, arith}
use Rattle.std.proofs.lemmas.List.{get_or-map, length-map}
use Rattle.std.proofs.lemmas.List.Elements.{All-map}
use Rattle.chan_needs.specs.declared.layout.Row.{Row}
use Rattle.chan_needs.specs.Row.{in_row}

pub all_rows : (P : Remembered → Type 0) (rs : List Row) → ((k : ℕ) (d : Row) → k < length rs → P (in_row (get_or rs k d))) → All P (map in_row rs)
all_rows P rs h = All-map P in_row rs h

-- a row of a program alone
abbrev row_of : Remembered → Row
row_of p = record { program = p; stores = record { start = 0; len = 0 }; keeps = record { start = 0; len = 0 } }

standing : (rs : List Row) (i : ℕ) (d : Remembered) (e : Row) → i < length rs → get_or (map in_row rs) i d ≡ in_row (get_or rs i e)
standing rs i d e l = get_or-map in_row rs i e d l

pub all_within : (P : Remembered → Type 0) (rs : List Row) (i : ℕ) → i ≤ length rs
    → AllWithin (λ (r : Row). P (in_row r)) rs 0 i → AllWithin P (map in_row rs) 0 i
all_within P rs i within h k d from below = subst P (sym (standing rs k d (row_of d) (omega arith))) (h k (row_of d) from below)

pub row_at : (rs : List Row) (i : ℕ) (e : Row) → i < length rs → IsInFlightAt (map in_row rs) i (in_row (get_or rs i e))
row_at rs i e l = (subst (λ n. i < n) (sym (length-map rs in_row)) l, λ d. standing rs i d e l)
