use Rattle.chan_needs.proofs.Names.{ap, arith, cylinder_of, drop, entry_of, get_or, List, option_map, Some, subst, sym, take, ℕ, ◌+◌, ◌<◌, ◌∙◌, ◌≡◌}
use Rattle.std.proofs.lemmas.List.{get_or-drop, get_or-take}
use Rattle.chan_walk.specs.declared.argument.GivenBytes.{GivenBytes}
use Rattle.chan_walk.specs.Operand.{whole_of}
use Rattle.chan_needs.proofs.Seeking.{GoesTo, goes_by_none, goes_by_other, goes_home, goes_seeking, is_other, is_seek_of}
use Rattle.chan_needs.proofs.needs.cylinder.Goals as goal

pub returns-in_err-command : goal.returns-in_err-command
returns-in_err-command c j look clear =
    subst (GoesTo j c.args.look.now.place) (sym c.from_residual.ensures)
    (goes_by_none j c.args.look.now look clear (sym c.command.ensures ∙ ap (option_map entry_of) c.in_err-command.was))

pub returns-in_err-argument-in-Seek : goal.returns-in_err-argument-in-Seek
returns-in_err-argument-in-Seek c j look clear =
    let seen = sym c.command.ensures ∙ ap (option_map entry_of) c.in_ok-command.was in
    let class = is_seek_of c.class.result c.in-Seek.is in
    let read = ap (option_map (λ (g : GivenBytes). g.bytes)) (sym (ap whole_of c.operand.ensures) ∙ sym c.whole.ensures ∙ c.in_err-argument-in-Seek.was) in
    subst (GoesTo j c.args.look.now.place) (ap (option_map cylinder_of) read ∙ sym c.from_residual-in_err-argument-in-Seek.ensures)
    (goes_seeking j c.args.look.now look clear (entry_of c.in_ok-command.field-0) seen (rw (sym c.class.ensures) class.0) (rw (sym c.class.ensures) class.1))

pub returns-in_ok-argument-in-Seek : goal.returns-in_ok-argument-in-Seek
returns-in_ok-argument-in-Seek c j look clear =
    let seen = sym c.command.ensures ∙ ap (option_map entry_of) c.in_ok-command.was in
    let class = is_seek_of c.class.result c.in-Seek.is in
    let read = ap (option_map (λ (g : GivenBytes). g.bytes)) (sym (ap whole_of c.operand.ensures) ∙ sym c.whole.ensures ∙ c.in_ok-argument-in-Seek.was) in
    let b : List ℕ = c.in_ok-argument-in-Seek.field-0.bytes in
    let at : (i : ℕ) → i < 4 → get_or (take 4 (drop 2 b)) i 0 ≡ get_or b (2 + i) 0 = λ i lt. get_or-take 4 (drop 2 b) i 0 lt ∙ get_or-drop 2 b i 0 in
    let number : c.read_u16.result ≡ cylinder_of b = omega (arith, c.read_u16.ensures, at 0 (omega arith), at 1 (omega arith)) in
    subst (GoesTo j c.args.look.now.place) (ap (option_map cylinder_of) read ∙ ap Some (sym number))
    (goes_seeking j c.args.look.now look clear (entry_of c.in_ok-command.field-0) seen (rw (sym c.class.ensures) class.0) (rw (sym c.class.ensures) class.1))

pub returns-in-Recalibrate : goal.returns-in-Recalibrate
returns-in-Recalibrate c j look clear =
    let seen = sym c.command.ensures ∙ ap (option_map entry_of) c.in_ok-command.was in
    goes_home j c.args.look.now look clear (entry_of c.in_ok-command.field-0) seen (sym c.class.ensures ∙ c.in-Recalibrate.is)

pub returns-in_default : goal.returns-in_default
returns-in_default c j look clear =
    let seen = sym c.command.ensures ∙ ap (option_map entry_of) c.in_ok-command.was in
    let class = is_other c.class.result c.in_default.not-Seek c.in_default.not-SeekCylinder c.in_default.not-SeekHead c.in_default.not-Recalibrate in
    goes_by_other j c.args.look.now look clear (entry_of c.in_ok-command.field-0) seen (rw (sym c.class.ensures) class.0) (rw (sym c.class.ensures) class.1)
