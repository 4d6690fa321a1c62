use Rattle.chan_deck.proofs.Names.{ap, cylinder_digits, length, refl, sym, ◌∙◌}
use Rattle.std.specs.Prelude.{codes}
use Rattle.chan_deck.proofs.FieldLemmas.{on_none, same_behind}
use Rattle.chan_deck.proofs.item.extent_of.Goals as goal

pub returns-then-line-ne-EXTENT_LINE : goal.returns-then-line-ne-EXTENT_LINE
returns-then-line-ne-EXTENT_LINE c = λ first last says. c.if-line-ne-EXTENT_LINE.true (ap length says.1)

pub returns-in_err-first : goal.returns-in_err-first
returns-in_err-first c = on_none _ _ _ c.from_residual.ensures (λ first last says.
    c.in_err-first.ensures (cylinder_digits first) (cylinder_digits last) refl says.1)

pub returns-in_err-first-2 : goal.returns-in_err-first-2
returns-in_err-first-2 c = on_none _ _ _ c.from_residual-in_err-first-2.ensures (λ first last says.
    let found = rw (c.in_ok-first.first-is, c.in_ok-first.last-is) at c.in_ok-first.ensures in
    let same = same_behind (codes "extent ") _ _ (cylinder_digits first) (cylinder_digits last) found.0 (sym found.1 ∙ says.1) in
    c.in_err-first-2.ensures first says.0.0 same.0)
