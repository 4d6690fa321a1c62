use Rattle.std.proofs.Common.{rules}
use Rattle.chan_run.proofs.Writing.{got_more}
use Rattle.chan_run.proofs.delivery.tell_line.Goals as goal

pub returns-clause-said : goal.returns-clause-said
returns-clause-said g c =
    got_more _ _ _ _ _ _ _ (search rules) c.in_ok-write_line.ensures.said c.write_bytes.ensures.said
