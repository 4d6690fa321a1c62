use Rattle.std.proofs.Common.{IfOk, refl, subst, sym}
use Rattle.chan_walk.specs.Limit.{usual_limit}
use Rattle.chan_find.specs.Programs.{AreStarts}
use Rattle.chan_find.proofs.programs.program_starts.Goals as goal

pub returns : goal.returns
returns c =
    let j = record c.job.result { storage = c.args.storage.now; start = 0; device = c.args.device; limit = usual_limit } in
    let opened = c.job.ensures.open j (c.in_ok-open.ensures j refl refl refl (search)) in
    subst (λ s. IfOk c.starts_of.result (λ v. AreStarts s v.items)) (sym opened.program.storage) c.starts_of.ensures
