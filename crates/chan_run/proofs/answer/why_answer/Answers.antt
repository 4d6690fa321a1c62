use Rattle.std.proofs.Common.{◌∙◌, string_bytes}
use Rattle.chan_run.proofs.answer.why_answer.Goals as goal

pub returns : goal.returns
returns c =
    let (are, asked, job, survey) = c.in_ok-findings.ensures in
    record {
      output = (string_bytes c.in_ok-why.why, rw (asked ∙ c.asked_by.ensures, job, survey) at c.in_ok-why.ensures, c.in_ok-text_after.ensures);
      advice = tt;
    }
