use Rattle.chan_deck.proofs.Names.{arith, drop, Filling, value_of, length, length-take, refl, subst, take, to_be_bytes, w64, Whole, ◌++◌, ◌+◌, ◌∙◌, ◌≡◌, ◌≤◌}
use Rattle.chan_deck.proofs.LineRefusals.{no_put}
use Rattle.chan_deck.proofs.FillLemmas.{zero_word, some_word, bad_place, zero_put, written, put_goes, end_goes}
use Rattle.chan_deck.specs.declared.cause.Cause.TheVariants as causes
use Rattle.chan_deck.proofs.storage_lines.fill.Goals as goal
use Rattle.chan_deck.proofs.storage_lines.fill.Goals.{then-address-ne0-via-then-address-ne0, then-address-ne0-via-else-address-ne0+then-address-next, then-address-ne0-via-else-address-ne0+else-address-next+then-storage-address}

pub loop-address-preserved : goal.loop-address-preserved
loop-address-preserved c =
    let S = c.loop-address.storage in
    let a = c.in-Put.address in
    let item = rw c.in-Put.is at c.next_item-item.ensures.next in
    let word = to_be_bytes w64 c.in-Put.word in
    let new = c.write_at.new.room in
    let is : new ≡ (take a S ++ word) ++ drop (a + length word) S =
    subst (λ w. new ≡ (take a S ++ w) ++ drop (a + length w) S) c.to_be_bytes.ensures c.write_at.ensures in
    let w = written S new word c.loop-address.next a c.loop-address.invariant.behind (omega arith) (omega arith) refl is in
    record {
      told = λ h es fs ss t st.
          item.takes (Filling h es fs ss (length S) (take c.loop-address.next S)) (Filling h es fs ss (length new) (take (a + 8) new))
          (put_goes h es fs ss a c.loop-address.next S new word (omega arith) (omega arith) (omega arith)
          (some_word c.in-Put.word (omega arith) c.if-word-eq0.false) w) t (c.loop-address.invariant.told h es fs ss t st);
      behind = w.behind;
      within = omega (arith, w.len);
      same = w.len ∙ c.loop-address.invariant.same;
    }

pub returns-then-address-ne0-clause-filled : goal.returns-then-address-ne0-clause-filled
returns-then-address-ne0-clause-filled c =
    let S = c.loop-address.storage in
    let front = take c.loop-address.next S in
    let item = rw c.in-Put.is at c.next_item-item.ensures.next in
    rw c.refused.ensures (λ h es fs ss t st. item.refuses (Filling h es fs ss (length S) front) causes.PutAddress refl
    (bad_place h es fs ss (length S) c.in-Put.address front (to_be_bytes w64 c.in-Put.word)
    (λ (al, low, fits).
    let above : c.loop-address.next ≤ c.in-Put.address = omega (arith, length-take c.loop-address.next S) in
    elim c.then-address-ne0.branch [
      | then-address-ne0-via-then-address-ne0 w ↦ omega arith
      | then-address-ne0-via-else-address-ne0+then-address-next w ↦ omega arith
      | then-address-ne0-via-else-address-ne0+else-address-next+then-storage-address w ↦ omega arith
    ])) t (c.loop-address.invariant.told h es fs ss t st))

pub returns-then-word-eq0-clause-filled : goal.returns-then-word-eq0-clause-filled
returns-then-word-eq0-clause-filled c =
    let S = c.loop-address.storage in
    let front = take c.loop-address.next S in
    let item = rw c.in-Put.is at c.next_item-item.ensures.next in
    rw c.refused-then-word-eq0.ensures (λ h es fs ss t st. item.refuses (Filling h es fs ss (length S) front) causes.PutZero refl
    (zero_put h es fs ss (length S) c.in-Put.address front (to_be_bytes w64 c.in-Put.word) (omega arith)
    (omega (arith, length-take c.loop-address.next S)) (omega arith) (zero_word c.in-Put.word c.if-word-eq0.true))
    t (c.loop-address.invariant.told h es fs ss t st))

pub returns-in-End-clause-filled : goal.returns-in-End-clause-filled
returns-in-End-clause-filled c = λ h es fs ss t st.
    let S = c.loop-address.storage in
    let item = rw c.in-End.is at c.next_item-item.ensures.next in
    let d = value_of h es fs ss S in
    c.end.ensures t d (item.takes (Filling h es fs ss (length S) (take c.loop-address.next S)) (Whole d)
    (end_goes h es fs ss c.loop-address.next S c.loop-address.invariant.within c.loop-address.invariant.behind)
    t (c.loop-address.invariant.told h es fs ss t st))

pub returns-in_default-clause-filled : goal.returns-in_default-clause-filled
returns-in_default-clause-filled c =
    let S = c.loop-address.storage in
    let front = take c.loop-address.next S in
    rw c.refused-in_default.ensures (λ h es fs ss t st. c.next_item-item.ensures.next.refuses (Filling h es fs ss (length S) front) causes.Form refl
    (no_put h es fs ss (length S) front _ c.in_default.not-Put c.in_default.not-End) t (c.loop-address.invariant.told h es fs ss t st))
