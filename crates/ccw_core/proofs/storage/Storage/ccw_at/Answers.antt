use Rattle.std.proofs.Common.{◌≡◌, ◌<◌, ◌≤◌, ◌-◌, ◌+◌, sym, ap, ◌∙◌, arith, length, take, drop, inl, inr, Some}
use Rattle.ccw_core.specs.Ccw.{ccw}
use Rattle.ccw_core.proofs.StorageLemmas.{ccw_at-misaligned, ccw_at-outside, ccw_at-stands, ccw-part}
use Rattle.std.proofs.lemmas.List.{take-take}
use Rattle.ccw_core.proofs.storage.Storage.ccw_at.Goals as goal

pub returns-then-address-ne0 : goal.returns-then-address-ne0
returns-then-address-ne0 c = sym (ccw_at-misaligned _ _ c.if-address-ne0.true)

pub returns-in_err-get : goal.returns-in_err-get
returns-in_err-get c =
    let s = c.args.self.now.bytes.now in
    let a = c.args.address in
    let outside : length s < a + 8 = elim c.in_err-get.ensures.lookup.0 [
      | inl h ↦ omega arith
      | inr h ↦ omega arith
    ] in
    c.from_residual.ensures ∙ sym (ccw_at-outside s a outside)

pub returns-in_err-word : goal.returns-in_err-word
returns-in_err-word c =
    let s = c.args.self.now.bytes.now in
    let a = c.args.address in
    let short : length c.in_ok-get.field-0.now < 8 = c.in_err-word.ensures.cases in
    let part = c.in_ok-get.ensures.lookup in
    c.from_residual-in_err-word.ensures ∙ sym (ccw_at-outside s a (omega arith))

pub returns : goal.returns
returns c =
    let s = c.args.self.now.bytes.now in
    let a = c.args.address in
    let n = length s in
    let part = c.in_ok-get.ensures.lookup.0 in
    let chunk = c.in_ok-word.ensures.cases in
    let long : a + 8 ≤ n = omega arith in
    let same : c.in_ok-word.word.now ≡ take 8 (drop a s) = chunk.same ∙ ap (take 8) part.2 ∙ take-take 8 (n - a) (drop a s) (omega arith) in
    let word : c.from_bytes.result ≡ ccw s a = c.from_bytes.ensures.fields ∙ ap (λ bs. ccw bs 0) same ∙ ccw-part s a in
    ap Some word ∙ sym (ccw_at-stands s a (omega arith) long)
