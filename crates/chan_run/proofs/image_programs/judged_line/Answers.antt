use Rattle.std.proofs.Common.{None, Some, [], rules}
use Rattle.chan_run.proofs.image_programs.judged_line.Goals as goal

pub returns-in-Ok : goal.returns-in-Ok
returns-in-Ok c = λ image there. (
  c.job_at-job.result,
  c.job_at-job.ensures image there,
  record {
    opened = c.job-open_job.result;
    is_open = c.job-open_job.ensures.open c.job_at-job.result c.in_ok-open.ensures;
    verdict = Some c.verdict-verdict.result;
    judged = rw c.verdict-verdict.ensures c.in-Ok.ensures.answer;
    counted = c.in_ok-shape-in-Ok.ensures c.job-open_job.result c.in-Ok.ensures.survey;
    shape = c.as_str.result.now;
    is = c.in_ok-line-in-Ok.ensures;
  },
)

pub returns-in-Err-TooManyPlaces : goal.returns-in-Err-TooManyPlaces
returns-in-Err-TooManyPlaces c = λ image there. (
  c.job_at-job.result,
  c.job_at-job.ensures image there,
  record {
    opened = c.job-open_job.result;
    is_open = c.job-open_job.ensures.open c.job_at-job.result c.in_ok-open.ensures;
    verdict = None;
    judged = search rules;
    counted = search rules;
    shape = [];
    is = c.in_ok-line-in-Err-TooManyPlaces.ensures;
  },
)
