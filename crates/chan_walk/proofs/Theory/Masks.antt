-- Strictness of masks.
use Rattle.chan_walk.proofs.Names.{and_from, class_passes, false, inhibits, is_at_least, is_mask, lookup, None, Option, refl, Some, true, ℕ, ◌≡◌}
use Rattle.ckd_core.specs.Mask.{inhibits_class}
use Rattle.ckd_core.specs.Command.{CommandEntry}
use Rattle.ckd_core.proofs.LevelLemmas.{strict-permits}

-- a file mask is at least as strict as itself
pub strict_as_itself : (f : ℕ) → is_mask f ≡ true → is_at_least f f ≡ true
strict_as_itself f h = (strict-permits f f).1 (h, λ c e. e)

-- and as C0, which inhibits nothing
pub strict_as_open : (byte : ℕ) → is_mask byte ≡ true → is_at_least byte 0xC0 ≡ true
unfolding is_at_least
strict_as_open byte h = and_from _ _ h refl

-- at least as strict as a mask, and so as a laxer one
pub strict_as_laxer : (byte mask lax : ℕ) → is_at_least byte mask ≡ true → is_at_least mask lax ≡ true → is_at_least byte lax ≡ true
strict_as_laxer byte mask lax h k =
    let a = (strict-permits byte mask).0 h in
    let b = (strict-permits mask lax).0 k in
    (strict-permits byte lax).1 (a.0, λ c e. b.1 c (a.1 c e))

-- what a mask permits, a laxer one permits
pub laxer_permits : (byte mask code : ℕ) → is_at_least byte mask ≡ true → inhibits byte code ≡ false → inhibits mask code ≡ false
unfolding inhibits
laxer_permits byte mask code h e = go (lookup code) e
  where
    go : (o : Option CommandEntry) → class_passes (inhibits_class byte) o ≡ false → class_passes (inhibits_class mask) o ≡ false
    go None e = refl
    go (Some k) e = ((strict-permits byte mask).0 h).1 k.class e
