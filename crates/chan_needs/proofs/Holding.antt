-- The bytes of two merged lists.
use Rattle.chan_needs.proofs.Names.{Area, arith, cases_lt, end_of, get_or, inl, inr, IsByteOf, IsLeastOf, IsMerged, IsShared, length, lies_in, List, rules, true, ℕ, ◌-◌, ◌<◌, ◌≡◌, ◌≤◌, ◌⊎◌}
use Rattle.std.proofs.Common.{max}
use Rattle.ccw_core.proofs.Covering.{lies_in-at}
use Rattle.chan_areas.proofs.Searching.{area_at, merged_ends, merged_len, merged_order}

-- no area
abbrev pub nowhere : Area
nowhere = record { start = 0; len = 0 }

-- ---- a byte in two merged lists

-- an area with the byte is area i or a later one
abbrev pub LiesFrom : List Area → ℕ → ℕ → Type 0
LiesFrom xs i b = (k : ℕ) → k < length xs → IsByteOf (get_or xs k nowhere) b → i ≤ k

-- each byte that lies in both lists lies in areas from these two on
pub record AreAhead (xs ys : List Area) (i m : ℕ) : Type 0 where
  pub one : (b : ℕ) → IsShared xs ys b → LiesFrom xs i b
  pub other : (b : ℕ) → IsShared xs ys b → LiesFrom ys m b

pub ahead_first : (xs ys : List Area) → AreAhead xs ys 0 0
ahead_first xs ys = record { one = λ b s k l of. omega arith; other = λ b s k l of. omega arith }

-- the other way round
turned : (xs ys : List Area) (i m : ℕ) → AreAhead xs ys i m → AreAhead ys xs m i
turned xs ys i m h = record { one = λ b s. h.other b (s.1, s.0); other = λ b s. h.one b (s.1, s.0) }

-- such a byte isn't before the area
from_start : (xs : List Area) (i b : ℕ) → IsMerged xs → lies_in xs b ≡ true → LiesFrom xs i b → (get_or xs i nowhere).start ≤ b
from_start xs i b merged lies from = let r = area_at xs nowhere b lies in let l = from r.0 r.1 r.2 in search (rules, cases_lt, merged_order)

-- past the areas before k, if the last of them ends by the byte
past : (xs : List Area) (k b : ℕ) → IsMerged xs → 0 < k → k ≤ length xs → end_of (get_or xs (k - 1) nowhere) ≤ b → LiesFrom xs k b
past xs k b merged some l ends j within of = search (rules, cases_lt, merged_ends)

-- so if the last of them ends before all that is left of the other list
pub ahead_past : (xs ys : List Area) (i k m : ℕ) → IsMerged xs → IsMerged ys → i < k → k ≤ length xs
    → end_of (get_or xs (k - 1) nowhere) ≤ (get_or ys m nowhere).start → AreAhead xs ys i m → AreAhead xs ys k m
ahead_past xs ys i k m one other less l e h = record {
  one = λ b s. let from = from_start ys m b other s.1 (h.other b s) in past xs k b one (omega arith) l (omega arith);
  other = h.other;
}

pub ahead_past_other : (xs ys : List Area) (i k m : ℕ) → IsMerged xs → IsMerged ys → m < k → k ≤ length ys
    → end_of (get_or ys (k - 1) nowhere) ≤ (get_or xs i nowhere).start → AreAhead xs ys i m → AreAhead xs ys i k
ahead_past_other xs ys i k m one other less l e h = turned ys xs k i (ahead_past ys xs m k i other one less l e (turned xs ys i m h))

pub share_here : (xs ys : List Area) (i m n : ℕ) → IsMerged xs → IsMerged ys → i < length xs → m < length ys
    → (get_or ys m nowhere).start < end_of (get_or xs i nowhere) → (get_or xs i nowhere).start < end_of (get_or ys m nowhere)
    → n ≡ max (get_or xs i nowhere).start (get_or ys m nowhere).start → AreAhead xs ys i m → IsLeastOf (IsShared xs ys) n
share_here xs ys i m n one other l k a b e h =
    let f = merged_len xs i nowhere one l in
    let g = merged_len ys m nowhere other k in (
      (lies_in-at xs i nowhere n l (omega arith) (omega arith), lies_in-at ys m nowhere n k (omega arith) (omega arith)),
      λ c s.
          let x = from_start xs i c one s.0 (h.one c s) in
          let y = from_start ys m c other s.1 (h.other c s) in
          omega arith,
    )

pub share_none : (xs ys : List Area) (i m : ℕ) → (length xs ≤ i) ⊎ (length ys ≤ m) → AreAhead xs ys i m → (b : ℕ) → IsShared xs ys b → ⊥
share_none xs ys i m (inl l) h b s = let r = area_at xs nowhere b s.0 in let k = h.one b s r.0 r.1 r.2 in omega (arith, k, l, r.1)
share_none xs ys i m (inr l) h b s = let r = area_at ys nowhere b s.1 in let k = h.other b s r.0 r.1 r.2 in omega (arith, k, l, r.1)

-- an empty list shares no byte
pub none_shared : (xs ys : List Area) → (length xs ≤ 0) ⊎ (length ys ≤ 0) → (b : ℕ) → IsShared xs ys b → ⊥
none_shared xs ys none = share_none xs ys 0 0 none (ahead_first xs ys)

-- what two lists, gone through side by side, have ahead
pub ruleset ahead_rules = (ahead_first, ahead_past, ahead_past_other, share_none)
