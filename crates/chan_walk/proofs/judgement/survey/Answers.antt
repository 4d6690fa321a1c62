use Rattle.chan_walk.specs.Offence.{first_verdict}
use Rattle.chan_walk.proofs.Machine.Answering.{at_most, covers, covers_among, only_yes, shown}
use Rattle.chan_walk.proofs.Algorithms.Walking.{reached_looks}
use Rattle.chan_walk.proofs.judgement.survey.Goals as goal

pub of-requires : goal.of-requires
of-requires c =
    let r = reached_looks c.args.job.now c.in_ok-walk.walk.looks.items c.as_slice.result.now
    c.in_ok-walk.walk.found_from.items c.in_ok-walk.ensures.found c.as_slice.ensures.value in
    (c.args.job.now, r.0)

pub offences_of-requires-clause-looks : goal.offences_of-requires-clause-looks
offences_of-requires-clause-looks c =
    let a = reached_looks c.args.job.now c.in_ok-walk.walk.looks.items c.as_slice.result.now
    c.in_ok-walk.walk.found_from.items c.in_ok-walk.ensures.found c.as_slice.ensures.value in
    let r = reached_looks c.args.job.now c.in_ok-walk.walk.looks.items c.as_slice-2.result.now
    c.in_ok-walk.walk.found_from.items c.in_ok-walk.ensures.found c.as_slice-2.ensures.value in
    (c.args.job.now, r.0, r.1, c.in_ok-guard.ensures c.args.job.now a.0 a.1)

pub returns-clause-survey : goal.returns-clause-survey
returns-clause-survey c =
    let j = c.args.job.now in
    let a = reached_looks j c.in_ok-walk.walk.looks.items c.as_slice.result.now
    c.in_ok-walk.walk.found_from.items c.in_ok-walk.ensures.found c.as_slice.ensures.value in
    let r = reached_looks j c.in_ok-walk.walk.looks.items c.as_slice-2.result.now
    c.in_ok-walk.walk.found_from.items c.in_ok-walk.ensures.found c.as_slice-2.ensures.value in
    let guards = c.in_ok-guard.ensures j a.0 a.1 in
    record { proper = c.show_proper.ensures; found = c.in_ok-walk.ensures.found; guard = guards; offences = c.in_ok-offences.ensures j r.0 r.1 guards }

pub returns-clause-answer : goal.returns-clause-answer
returns-clause-answer c =
    let j = c.args.job.now in
    let s = returns-clause-survey c in
    let v = first_verdict c.in_ok-offences.offences.items in
    let is = c.first_is_verdict.ensures j c.in_ok-offences.offences.items s.offences in
    record {
      verdict = is;
      exact = (covers j v s.proper.2 c.yes_is_safe.ensures is, λ h. only_yes j v is (c.safe_is_yes.ensures j s.proper h.0 h.1));
      among = covers_among j v s.proper.2 c.yes_is_safe_among.ensures is;
      witness = shown j v s.proper c.no_false_alarm.ensures c.no_is_harm.ensures is;
      few = at_most j c.in_ok-walk.walk.looks.items c.in_ok-walk.walk.found_from.items c.in_ok-walk.ensures.found;
    }
