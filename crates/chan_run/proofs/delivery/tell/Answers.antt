use Rattle.std.proofs.Common.{List, append_assoc, rules, subst, ℕ}
use Rattle.chan_run.proofs.Writing.{got_more}
use Rattle.chan_run.specs.Name.{name_in}
use Rattle.chan_run.specs.Outcome.{line_over}
use Rattle.chan_run.specs.Texts.{WriterGot}
use Rattle.chan_run.proofs.delivery.tell.Goals as goal

pub returns-in_ok-tell_line-in-Some-clause-said : goal.returns-in_ok-tell_line-in-Some-clause-said
returns-in_ok-tell_line-in-Some-clause-said g c =
    let E = g.E.Write.contents in
    rw (c.in-Some.is, ← c.as_slice.ensures.value, ← c.as_bytes.ensures.value)
    (subst (λ (t : List ℕ). WriterGot t (E c.args.errors.now.device) (E c.write_bytes.new.to.device) c.write_bytes.new.to.failed)
    (append_assoc (line_over (name_in c.args.name) c.args.response.now.outcome) c.as_slice.result.now c.as_bytes.result.now)
    (got_more _ _ _ _ _ _ _ (search rules) c.in_ok-tell_line-in-Some.ensures.said c.write_bytes.ensures.said))

pub returns-in_ok-write_line-in-None-clause-said : goal.returns-in_ok-write_line-in-None-clause-said
returns-in_ok-write_line-in-None-clause-said g c =
    rw (c.in-None.is, ← c.as_bytes-in-None.ensures.value)
    (got_more _ _ _ _ _ _ _ (search rules) c.in_ok-write_line-in-None.ensures.said c.tell_line-in-None.ensures.said)
