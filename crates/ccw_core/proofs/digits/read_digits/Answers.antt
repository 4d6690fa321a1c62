use Rattle.std.proofs.Common.{ap, arith, length, replicate, slice_index, sym, ℕ, ◌∙◌}
use Rattle.std.specs.Char.{is_ascii_lowercase}
use Rattle.std.proofs.lemmas.List.{length-replicate}
use Rattle.std.specs.Prelude.{is_ok}
use Rattle.hex.specs.Hex.{decode_sized}
use Rattle.hex.proofs.HexLemmas.{IsOk-written}
use Rattle.ccw_core.proofs.UpperDigits.{decoded, never_small, read_well, reads}
use Rattle.ccw_core.proofs.digits.read_digits.Goals as goal

pub returns-then-has_small_letter : goal.returns-then-has_small_letter
returns-then-has_small_letter g c = λ bytes len are same.
    let small = rw c.if-has_small_letter.true at c.has_small_letter.ensures in
    cc (sym (ap (λ t. is_ascii_lowercase (slice_index t small.0)) same) ∙ small.1, never_small bytes small.0)

pub returns-in-Ok : goal.returns-in-Ok
returns-in-Ok g c =
    let none = rw c.if-has_small_letter.false at c.has_small_letter.ensures in
    let read = read_well c.args.digits.now c.decode_to_slice.new.out _
    (decoded _ c.decode_to_slice.result _ c.decode_to_slice.ensures.value _ c.in-Ok.is) (λ i. omega (arith, c.type_inv.digits i)) none in
    (read.0 ∙ length-replicate {A = ℕ} g.row.N 0, read.1, read.2)

pub returns-in-Err : goal.returns-in-Err
returns-in-Err g c = λ bytes len are same.
    let n : ℕ = length (replicate {A = ℕ} g.row.N 0) in
    let read = ap (λ t. decode_sized t n) same ∙ reads bytes n (len ∙ sym (length-replicate {A = ℕ} g.row.N 0)) are in
    let ok = rw c.in-Err.is at ((IsOk-written _ c.decode_to_slice.result _ c.decode_to_slice.ensures.value).1 (ap is_ok read)) in
    cc ok
