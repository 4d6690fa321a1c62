use Rattle.chan_run.proofs.Writing.{after_first}
use Rattle.chan_run.proofs.texts.+write_each.Goals as goal

pub returns-in_ok-write_out-in-len1-up-clause-prefix :
    goal.returns-in_ok-write_out-in-len1-up-clause-prefix
returns-in_ok-write_out-in-len1-up-clause-prefix g t c =
    after_first c.args.texts.now _ _ _ _ c.in-len1-up.len_at_least
    (rw c.as_bytes.ensures.value at c.in_ok-write_out-in-len1-up.ensures.ok) c.write_each.ensures.prefix
