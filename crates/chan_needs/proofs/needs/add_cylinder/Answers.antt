use Rattle.chan_needs.proofs.Names.{[], ap, byte_area, ◌++◌, ◌∙◌, ◌∷◌}
use Rattle.chan_needs.proofs.Seeking.{adds_cylinder, adds_nothing}
use Rattle.chan_needs.proofs.needs.add_cylinder.Goals as goal

pub returns-in_ok-push-clause-cylinder : goal.returns-in_ok-push-clause-cylinder
returns-in_ok-push-clause-cylinder c j look clear =
    adds_cylinder j c.args.look.now.place c.cylinder.result c.in-Some.cylinder
    c.args.cylinders.now.items c.push.new.self.items (c.cylinder.ensures j look clear) c.in-Some.is
    (c.in_ok-push.ensures.ok ∙ ap (λ n. c.args.cylinders.now.items ++ byte_area n ∷ []) c.from.ensures)

pub returns-in_default-clause-cylinder : goal.returns-in_default-clause-cylinder
returns-in_default-clause-cylinder c j look clear =
    adds_nothing j c.args.look.now.place c.cylinder.result c.args.cylinders.now.items (c.cylinder.ensures j look clear) c.in_default.is
