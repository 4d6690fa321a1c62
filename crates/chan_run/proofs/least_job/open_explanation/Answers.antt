use Rattle.std.proofs.Common.{string_bytes}
use Rattle.chan_walk.specs.Offence.{first_verdict}
use Rattle.chan_run.proofs.least_job.open_explanation.Goals as goal

pub returns : goal.returns
returns c =
    let (are, asked, job, survey) = c.in_ok-findings.ensures in (
      first_verdict c.args.survey.offences,
      string_bytes c.in_ok-why.why,
      string_bytes c.in_ok-advice.advice,
      rw (asked, job, survey) at c.in_ok-why.ensures,
      c.in_ok-format.ensures.ok,
    )
