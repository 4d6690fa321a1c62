use Rattle.chan_walk.proofs.Names.{[], ap, arith, bit_at, place_at, subst, sym, ways, ◌++◌, ◌+◌, ◌-◌, ◌∙◌, ◌∷◌, ◌≡◌}
use Rattle.std.proofs.lemmas.Nat.Bits.{shr_and_one}
use Rattle.chan_walk.proofs.Algorithms.InOrder.{ways_next, ways_skip, ways_done}
use Rattle.chan_walk.proofs.marks.push_ways.Goals.{then-bits-way-eq1+in_ok-push, else-bits-way-eq1}
use Rattle.chan_walk.proofs.marks.push_ways.Goals as goal

pub loop-way-preserved : goal.loop-way-preserved
loop-way-preserved c = elim c.if-bits-way-eq1.branch [
  | then-bits-way-eq1+in_ok-push w ↦
      let b : bit_at c.args.bits c.loop-way.way ≡ 1 = sym (shr_and_one c.args.bits c.loop-way.way) ∙ w.if-bits-way-eq1.true in
      let e : c.if-bits-way-eq1.places.items ≡ c.loop-way.places.items ++ place_at c.args.address c.loop-way.way ∷ [] =
      ap (λ z. z.items) w.places-is ∙ w.in_ok-push.ensures.items ∙ ap (λ x. c.loop-way.places.items ++ x ∷ []) w.place_at.ensures in
      ways_next c.args.address c.args.bits c.loop-way.way c.loop-way.places.items c.if-bits-way-eq1.places.items _ (omega arith) b e c.loop-way.invariant
  | else-bits-way-eq1 w ↦
      let e : c.loop-way.places.items ≡ c.if-bits-way-eq1.places.items = sym (ap (λ z. z.items) w.places-is) in
      let n : bit_at c.args.bits c.loop-way.way ≡ 1 → ⊥ = λ h. w.if-bits-way-eq1.false (shr_and_one c.args.bits c.loop-way.way ∙ h) in
      let a = c.args.address in
      let bits = c.args.bits in
      let i = c.loop-way.way in
      subst (λ z. z ++ ways a bits (i + 1) (8 - (i + 1)) ≡ c.args.places.now.items ++ ways a bits 0 8) e
      (ways_skip a bits i c.loop-way.places.items _ (omega arith) n c.loop-way.invariant)
]

pub returns-clause-ok : goal.returns-clause-ok
returns-clause-ok c = ways_done c.args.address c.args.bits c.loop-way.way c.loop-way.places.items _ c.loop-way-test.false c.loop-way.invariant
