use Rattle.chan_walk.proofs.Names.{ap, begins_recalibrate, begins_seek, byte, extents_of, false, Fields, has_cylinder, HasArgument, home, inl, inr, is_at_least, IsOperand, not, Operand, refl, rules, Some, storage_of, subst, sym, true, ◌&&◌, ◌∙◌, ◌≡◌}
use Rattle.chan_walk.proofs.Theory.Found.{found_here, home_allowed, home_refused, mask_strict, mask_weak, seek_allowed, seek_refused}
use Rattle.chan_walk.proofs.Theory.Chains.{argument_exists}
use Rattle.chan_walk.proofs.fault.operand_fault.Goals as goal
use Rattle.chan_walk.proofs.fault.operand_fault.Goals.{in_default-via-in-Nothing+then-begins_recalibrate+else-not-has, in_default-via-in-Nothing+else-begins_recalibrate, in_default-via-in-Mask+else-not-is_strict}

pub returns-in-Nothing : goal.returns-in-Nothing
returns-in-Nothing c =
    let j = c.args.job.now in
    let p = c.args.visit.now.place in
    let f = c.args.visit.now.ccw in
    let here = found_here j p f c.requires.visit.stands in
    let r = subst (IsOperand (storage_of j) p f) c.in-Nothing.is c.requires.operand in
    let a = argument_exists (storage_of j) p.address in
    let b : begins_recalibrate p f ≡ true = sym c.begins_recalibrate.ensures ∙ c.if-begins_recalibrate.true in
    let h : has_cylinder (extents_of j) 0 ≡ false = sym c.has.ensures ∙ c.if-not-has.true in
    let recalibrates = subst (λ (w : Fields). begins_recalibrate p w ≡ true) here b in
    let seeks = subst (λ (w : Fields). begins_seek p w ≡ false) here r.0 in
    (a.0, a.1, (home_refused j p f a.0 r.0 b h, ((home, inr (recalibrates, refl), (refl, refl, h)), seeks)))

pub returns-in-Some : goal.returns-in-Some
returns-in-Some c =
    let j = c.args.job.now in
    let p = c.args.visit.now.place in
    let f = c.args.visit.now.ccw in
    let here = found_here j p f c.requires.visit.stands in
    let r = subst (IsOperand (storage_of j) p f) c.in-Whole.is c.requires.operand in
    let seeks = subst (λ (w : Fields). begins_seek p w ≡ true) here r.0 in
    let x = c.in-Whole.given.bytes in
    let has : HasArgument (storage_of j) p.address (Some x) = (r.1.chain, r.1.is_chain, r.1.bytes) in
    (Some x, has, (seek_refused j p f x r.0 c.in-Some.ensures.0, ((x, inl (seeks, has), c.in-Some.ensures.1), (seeks, r.1))))

pub returns-in-None : goal.returns-in-None
returns-in-None c =
    let j = c.args.job.now in
    let p = c.args.visit.now.place in
    let r = subst (IsOperand (storage_of j) p c.args.visit.now.ccw) c.in-Whole.is c.requires.operand in
    let x = c.in-Whole.given.bytes in
    (Some x, (r.1.chain, r.1.is_chain, r.1.bytes), seek_allowed j p c.args.visit.now.ccw x r.0 c.in-None.ensures)

pub returns-in-Mask : goal.returns-in-Mask
returns-in-Mask c =
    let j = c.args.job.now in
    let p = c.args.visit.now.place in
    let f = c.args.visit.now.ccw in
    let here = found_here j p f c.requires.visit.stands in
    let r = subst (IsOperand (storage_of j) p f) c.in-Mask.is c.requires.operand in
    let a = argument_exists (storage_of j) p.address in
    let weak : is_at_least (byte (storage_of j) f.address) j.mask ≡ false =
    ap (λ b. is_at_least b j.mask) (sym r.2) ∙ sym c.is_strict.ensures ∙ c.if-not-is_strict.true in
    (a.0, a.1, (mask_weak j p f a.0 r.0 weak, (r.2 ∙ ap (λ (w : Fields). byte (storage_of j) w.address) here, refl)))

pub returns-in_default : goal.returns-in_default
returns-in_default c =
    let j = c.args.job.now in
    let p = c.args.visit.now.place in
    let f = c.args.visit.now.ccw in
    let is_operand : Operand → Type 0 = IsOperand (storage_of j) p f in
    let a = argument_exists (storage_of j) p.address in
    elim c.in_default.branch [
      | in_default-via-in-Nothing+then-begins_recalibrate+else-not-has w ↦
          let r = subst is_operand w.in-Nothing.is c.requires.operand in
          let h : has_cylinder (extents_of j) 0 ≡ true = sym w.has.ensures ∙ w.if-not-has.false in
          let none : (begins_recalibrate p f && not (has_cylinder (extents_of j) 0)) ≡ false = search (rules, h) in
          (a.0, a.1, home_allowed j p f a.0 r.0 r.1 none)
      | in_default-via-in-Nothing+else-begins_recalibrate w ↦
          let r = subst is_operand w.in-Nothing.is c.requires.operand in
          let b : begins_recalibrate p f ≡ false = sym w.begins_recalibrate.ensures ∙ w.if-begins_recalibrate.false in
          (a.0, a.1, home_allowed j p f a.0 r.0 r.1 (rw b refl))
      | in_default-via-in-Mask+else-not-is_strict w ↦
          let r = subst is_operand w.in-Mask.is c.requires.operand in
          let strict : is_at_least (byte (storage_of j) f.address) j.mask ≡ true =
          ap (λ b. is_at_least b j.mask) (sym r.2) ∙ sym w.is_strict.ensures ∙ w.if-not-is_strict.false in
          (a.0, a.1, mask_strict j p f a.0 r.0 strict)
    ]
