-- The first command of some codes in a row that passes a test, code by code.
use Rattle.std.proofs.Common.{◌≡◌, ℕ, suc, ◌+◌, ◌-◌, ◌<◌, Bool, true, false, Option, Some, None, if◌then◌else◌, refl, sym, ap, ◌∙◌, arith}
use Rattle.std.specs.Option.{option_or}
use Rattle.ckd_core.specs.declared.command.MaskClass.{MaskClass}
use Rattle.ckd_core.specs.Mask.{first_command}
use Rattle.ckd_core.specs.Command.{CommandEntry, class_passes, lookup}

module _ (test : MaskClass → Bool) where
  -- the entry of a code, if its class passes
  abbrev passing : Option CommandEntry → Option CommandEntry
  passing o = if class_passes test o then o else None

  -- a code that has an entry which passes comes first, and any other is left out
  chosen : (o : Option CommandEntry) (rest : Option CommandEntry) → (if class_passes test o then o else rest) ≡ option_or (passing o) rest
  chosen None rest = refl
  chosen (Some e) rest = elim (test e.class) as (λ b. (if b then Some e else rest) ≡ option_or (if b then Some e else None) rest) [ true ↦ refl | false ↦ refl ]

  first_step : (c n : ℕ) (o : Option CommandEntry) → o ≡ passing (lookup c) → first_command test c (suc n) ≡ option_or o (first_command test (c + 1) n)
  first_step code n o e =
      chosen (lookup code) (first_command test (code + 1) n) ∙ ap (λ (z : Option CommandEntry). option_or z (first_command test (code + 1) n)) (sym e)

  -- with the codes that are left up to the last byte
  pub first_left : (code : ℕ) (o : Option CommandEntry) → code < 256 → o ≡ passing (lookup code)
      → first_command test code (256 - code) ≡ option_or o (first_command test (code + 1) (256 - (code + 1)))
  first_left code o lt e =
      let n = 256 - (code + 1) in
      let next : 256 - code ≡ suc n = omega arith in
      ap (first_command test code) next ∙ first_step code n o e
