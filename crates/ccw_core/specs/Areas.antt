-- Areas of storage, and the ranges that they cover.
use Rattle.std.specs.Prelude.{◌≡◌, ℕ, zero, suc, ◌+◌, ◌<◌, ◌≤◌, Bool, true, false, ◌&&◌, nat_le}
use Rattle.std.specs.Prelude.{nat_lt, List, Option, None, Some}
use Rattle.std.specs.List.{list_any}
use Rattle.ccw_core.specs.declared.areas.Area.{Area}

-- the byte at an address lies in some area
unfoldable pub lies_in : List Area → ℕ → Bool
lies_in areas b = list_any (λ x. nat_le x.start b && nat_lt b (x.start + x.len)) areas

-- each of the n bytes from a on lies in some area
abbrev pub covered : List Area → ℕ → ℕ → Bool
covered areas a zero = true
covered areas a (suc n) = lies_in areas a && covered areas (suc a) n

-- the address after that of an area's last byte
abbrev pub end_of : Area → ℕ
end_of a = a.start + a.len

-- the first bytes in a row of a range that lie in no area
pub record IsFirstGap (areas : List Area) (range gap : Area) : Type 0 where
  pub from : range.start ≤ gap.start
  pub filled : 0 < gap.len
  pub within : end_of gap ≤ end_of range
  pub before : (b : ℕ) → range.start ≤ b → b < gap.start → lies_in areas b ≡ true
  pub inside : (b : ℕ) → gap.start ≤ b → b < end_of gap → lies_in areas b ≡ false
  pub after : end_of gap < end_of range → lies_in areas (end_of gap) ≡ true

-- that gap, or that each byte of the range lies in some area
abbrev pub IsGap : List Area → Area → Option Area → Type 0
IsGap areas range None = covered areas range.start range.len ≡ true
IsGap areas range (Some gap) =
    (covered areas range.start range.len ≡ false) × IsFirstGap areas range gap
