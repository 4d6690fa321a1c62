-- A transfer in channel is known by the low four bits of its code.
use Rattle.std.proofs.Common.{◌≡◌, ◌==◌, ◌%◌, ℕ, Bool, true, false, if◌then◌else◌, refl, ◌⊎◌, inl, inr}
use Rattle.std.proofs.lemmas.Bool.{eqb-true, cases_Bool}
use Rattle.ccw_core.specs.Group.{group_of}
use Rattle.ccw_core.specs.declared.group.Group.TheVariants.{Invalid, Sense, Transfer, ReadBackward, Write, Read, Control}

pub group_of-transfer : (code : ℕ) → (code % 16 == 8) ≡ true → group_of code ≡ Transfer
group_of-transfer code h = let e : code % 16 ≡ 8 = eqb-true _ _ h in rw e refl

another_group : (a b c d e : Bool)
    → (if a then Invalid else if b then Sense else if c then ReadBackward else if d then Write else if e then Read else Control) ≡ Transfer → ⊥
another_group true b c d e h = cc
another_group false true c d e h = cc
another_group false false true d e h = cc
another_group false false false true e h = cc
another_group false false false false true h = cc
another_group false false false false false h = cc

-- a code of this group has these low four bits
pub transfer-group_of : (code : ℕ) → group_of code ≡ Transfer → (code % 16 == 8) ≡ true
transfer-group_of code k = go (cases_Bool (code % 16 == 8))
  where
    go : ((code % 16 == 8) ≡ true) ⊎ ((code % 16 == 8) ≡ false) → (code % 16 == 8) ≡ true
    go (inl h) = h
    go (inr h) = absurd (another_group (code % 16 == 0) (code % 16 == 4) (code % 16 == 12) (code % 4 == 1) (code % 4 == 2) (rw h at k))
