-- What `check_start` says of the job is said of what C asks about.
use Rattle.chanv_c.proofs.checks.start_reply.Goals as goal

pub returns-clause-answer : goal.returns-clause-answer
returns-clause-answer c = record {
  job = c.job-job.result;
  asked = c.job-job.ensures;
  reply = c.in_ok-check_start.ensures.answer;
  well = c.in_ok-check_start.ensures.well;
  due = c.in_ok-check_start.ensures.exact.1;
}
