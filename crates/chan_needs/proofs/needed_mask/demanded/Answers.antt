use Rattle.chan_needs.proofs.Names.{ap, entry_of, option_map, rules, sym, ◌∙◌}
use Rattle.chan_needs.proofs.Demanding.{bounds_byte, bounds_class, bounds_nothing}
use Rattle.chan_needs.proofs.needed_mask.demanded.Goals as goal

pub returns-in-SetMask : goal.returns-in-SetMask
returns-in-SetMask c j look clear =
    let seen = sym c.command.ensures ∙ ap (option_map entry_of) c.in-Some.is in
    let bounds = bounds_byte j c.args.look.now look clear (entry_of c.in-Some.command) seen (sym c.class.ensures ∙ c.in-SetMask.is) in
    search rules

pub returns-in_default : goal.returns-in_default
returns-in_default c j look clear =
    let seen = sym c.command.ensures ∙ ap (option_map entry_of) c.in-Some.is in
    let bounds = bounds_class j c.args.look.now look clear (entry_of c.in-Some.command) seen (λ e. c.in_default.not-SetMask (c.class.ensures ∙ e)) in
    search rules

pub returns-in-None : goal.returns-in-None
returns-in-None c j look clear =
    let bounds = bounds_nothing j c.args.look.now look clear (sym c.command.ensures ∙ ap (option_map entry_of) c.in-None.is) in
    search rules
