use Rattle.chan_walk.proofs.Names.{bytes_held, HasArgument, subst, sym, ◌∙◌}
use Rattle.chan_walk.proofs.Algorithms.Following.{begins_nowhere}
use Rattle.chan_walk.proofs.argument.seek_argument.Goals as goal

pub returns-in_err-ccw : goal.returns-in_err-ccw
returns-in_err-ccw c =
    let s = bytes_held c.args.storage.now in
    subst (HasArgument s c.args.address) (sym c.from_residual.ensures) (begins_nowhere s 6 c.args.address (sym c.ccw_at.ensures ∙ c.in_err-ccw.was))
