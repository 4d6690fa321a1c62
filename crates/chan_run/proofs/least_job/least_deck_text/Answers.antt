use Rattle.std.proofs.Common.{◌≡◌, refl, rules}
use Rattle.std.proofs.lemmas.Result.{IfOk-weaker}
use Rattle.chan_needs.specs.Listed.{listed}
use Rattle.chan_walk.specs.Job.{storage_of}
use Rattle.chan_run.proofs.LeastLemmas.{begins_low, granting_is_yes}
use Rattle.chan_run.proofs.least_job.least_deck_text.Goals as goal

pub granting_text-requires-clause-start : goal.granting_text-requires-clause-start
granting_text-requires-clause-start c =
    begins_low c.args.job.now (listed c.args.needs.now)
    (c.requires c.args.job.now (record { storage = refl; start = refl; device = refl })) (search rules)

pub returns : goal.returns
returns c =
    let j = c.args.job.now in
    let n = listed c.args.needs.now in
    let bytes : c.in-Some.image.now ≡ storage_of j = search rules in
    IfOk-weaker c.granting_text.result _ _ (λ text spelled. record {
      needed = n;
      needs = c.requires;
      spelled = rw (bytes, c.unusual_limit.ensures) at spelled;
      yes = granting_is_yes j n c.requires (search rules);
    }) c.granting_text.ensures
