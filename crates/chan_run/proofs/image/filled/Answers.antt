use Rattle.std.proofs.Common.{rules, sym, ◌∙◌}
use Rattle.chan_run.proofs.RoomLemmas.{filled_up, left_alone}
use Rattle.chan_run.proofs.image.filled.Goals.{then-is_some+in_ok-resize, else-is_some}
use Rattle.chan_run.proofs.image.filled.Goals as goal

pub returns-clause-is : goal.returns-clause-is
returns-clause-is c =
    let size = c.args.options.now.size in
    elim c.if-is_some.branch [
      | then-is_some+in_ok-resize w ↦ rw w.whole-is (
          filled_up size c.args.room c.args.image.len c.args.image.items w.resize.new.self.items
          (sym c.is_some.ensures ∙ w.if-is_some.true) c.requires (search rules) (search rules))
      | else-is_some w ↦ rw w.whole-is (left_alone size c.args.room c.args.image.items (sym c.is_some.ensures ∙ w.if-is_some.false))
    ]
