use Rattle.chan_run.proofs.RoomLemmas.{past_storage}
use Rattle.chan_run.proofs.image.read_image.Goals as goal

pub returns-in_default-clause-err : goal.returns-in_default-clause-err
returns-in_default-clause-err g c =
    let o = c.args.options.now in
    past_storage _ o.size o.at (c.room_for.ensures.none c.in_default.is) o.at_is_address
