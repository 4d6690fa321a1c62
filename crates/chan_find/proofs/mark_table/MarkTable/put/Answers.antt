use Rattle.std.proofs.Common.{◌≡◌, ◌∙◌, ◌*◌, ◌%◌, ◌^◌, ◌-◌, ap, arith, slice_index, w8}
use Rattle.std.specs.Int.{bit_at}
use Rattle.std.specs.Int.RustNames.{bit_or}
use Rattle.std.proofs.lemmas.List.{get_or_read}
use Rattle.std.proofs.lemmas.List.Sums.{sum_by-set}
use Rattle.std.proofs.lemmas.Nat.{le_or_l}
use Rattle.std.proofs.lemmas.Nat.Bits.{bit_at_set_same, shr_and_one}
use Rattle.chan_find.proofs.mark_table.MarkTable.put.Goals as goal

pub returns : goal.returns
returns c =
    let m = c.args.self.now.bytes.items in
    let at = c.in-Some.at in
    let old = c.index.result.now in
    let way = c.way-way.result in
    let new = bit_or old (1 * 2 ^ way % 2 ^ 8) in
    let read : old ≡ slice_index m at = get_or_read m _ _ c.in-Some.ensures c.index.ensures 0 in
    let on = bit_at_set_same w8 old way c.way-way.ensures.small in
    let differs : old ≡ new → ⊥ = λ e. c.if-bits-way-eq1.false (shr_and_one old way ∙ ap (λ b. bit_at b way) e ∙ on) in
    omega (arith, read, le_or_l old (1 * 2 ^ way % 2 ^ 8), differs, sum_by-set (λ b. 256 - b) m at new 0 c.in-Some.ensures)
