use Rattle.std.proofs.Common.{◌≡◌, ◌<◌, ℕ, false, MatchBool, slice_index, true}
use Rattle.std.specs.Char.{is_ascii_lowercase}
use Rattle.ccw_core.proofs.digits.has_small_letter.Given as goal

-- whether one has been found so far
abbrev pub invariant-loop-character : goal.invariant-loop-character
invariant-loop-character l =
    MatchBool l.found
    ((i : ℕ) × (is_ascii_lowercase (slice_index l.characters i) ≡ true))
    ((i : ℕ) → i < l.character-index → is_ascii_lowercase (slice_index l.characters i) ≡ false)
