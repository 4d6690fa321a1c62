use Rattle.std.proofs.Common.{◌++◌, ◌∙◌, ◌≡◌, Bool, ap, false, refl, string_bytes, sym, true}
use Rattle.chan_walk.specs.declared.verdict.Verdict.TheVariants.{No}
use Rattle.chan_walk.specs.Offence.{first_verdict}
use Rattle.chan_run.specs.Name.{heading_of}
use Rattle.chan_run.specs.Output.{IsNeeded}
use Rattle.chan_run.proofs.answer.needs_answer.Goals as goal

pub returns-in-No : goal.returns-in-No
returns-in-No c = record {
  output = (
    string_bytes c.in_ok-why.why,
    needed c.args.deck refl,
    c.in_ok-text_under.ensures ∙ ap (λ t. heading_of c.args.naming ++ t) c.as_bytes.ensures.value,
  );
  advice = tt;
}
  where
    no : first_verdict c.args.survey.offences ≡ No c.in-No.address c.in-No.reason
    no = sym c.verdict.ensures ∙ c.in-No.is

    needed : (d : Bool) → c.args.deck ≡ d → IsNeeded d c.args.job.now (first_verdict c.args.survey.offences) (string_bytes c.in_ok-why.why)
    needed true e = rw no (c.in_ok-why.ensures.deck e)
    needed false e =
        let (are, asked, job, survey) = c.in_ok-findings.ensures in
        rw no (rw (asked, job, survey, no) at (c.in_ok-why.ensures.why e))
