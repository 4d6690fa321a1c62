use Rattle.chan_walk.proofs.Names.{ap, false, Fields, inhibits, is_fresh, lookup, option_map, refl, Some, sym, true, ◌∙◌, ◌≡◌}
use Rattle.ckd_core.specs.Entries.{entry_of}
use Rattle.ckd_core.proofs.TableLemmas.{inhibits-class}
use Rattle.chan_walk.proofs.Algorithms.Visiting.{begun-fresh}
use Rattle.chan_walk.proofs.Theory.Found.{found_here}
use Rattle.chan_walk.proofs.fault.command_fault.Goals as goal

pub returns-in-Some : goal.returns-in-Some
returns-in-Some c =
    let p = c.args.visit.now.place in
    let fresh : is_fresh p.entered ≡ true = sym c.is_fresh.ensures ∙ c.if-not-is_fresh.false in
    let found : lookup c.args.visit.now.ccw.command ≡ Some (entry_of c.in-Some.command) =
    sym (begun-fresh p c.args.visit.now.ccw fresh) ∙ sym c.requires.begun.command ∙ ap (option_map entry_of) c.in-Some.is in
    let i : inhibits c.args.job.now.mask c.args.visit.now.ccw.command ≡ true = inhibits-class _ _ _ found ∙ sym c.inhibits.ensures ∙ c.if-inhibits.true in
    let here = found_here c.args.job.now p c.args.visit.now.ccw c.requires.stands in
    (rw (fresh, found, i) refl, (refl, c.command-code.ensures ∙ ap (λ (f : Fields). f.command) here))

pub returns-in-Some-2 : goal.returns-in-Some-2
returns-in-Some-2 c =
    let p = c.args.visit.now.place in
    let fresh : is_fresh p.entered ≡ true = sym c.is_fresh.ensures ∙ c.if-not-is_fresh.false in
    let found : lookup c.args.visit.now.ccw.command ≡ Some (entry_of c.in-Some.command) =
    sym (begun-fresh p c.args.visit.now.ccw fresh) ∙ sym c.requires.begun.command ∙ ap (option_map entry_of) c.in-Some.is in
    let i : inhibits c.args.job.now.mask c.args.visit.now.ccw.command ≡ false = inhibits-class _ _ _ found ∙ sym c.inhibits.ensures ∙ c.if-inhibits.false in
    rw (fresh, found, i) refl
