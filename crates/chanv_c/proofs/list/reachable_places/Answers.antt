-- What `explore` says of the job is said of what C asks about.
use Rattle.std.proofs.Common.{◌≤◌, ℕ, length, subst}
use Rattle.chanv_c.proofs.list.reachable_places.Goals as goal

pub returns-clause-answer : goal.returns-clause-answer
returns-clause-answer c = record {
  job = c.job.result;
  asked = c.job.ensures;
  are = c.in_ok-explore.ensures.ok;
  few = subst (λ (n : ℕ). length c.in_ok-explore.field-0 ≤ n) c.job.ensures.limit c.in_ok-explore.ensures.few;
}
