use Rattle.chan_walk.proofs.Names.{byte_area, IsArgumentByteOf, map, subst, ◌++◌}
use Rattle.std.proofs.lemmas.Result.{on_ok_weaker}
use Rattle.chan_areas.specs.Merged.{HaveSameBytes}
use Rattle.chan_walk.specs.Look.{argument_seen}
use Rattle.chan_walk.proofs.Algorithms.Guarding.{adds_areas, lies_in-bytes}
use Rattle.chan_walk.proofs.guard.add_argument.Goals as goal

pub returns-clause-bytes : goal.returns-clause-bytes
returns-clause-bytes c =
    let a = argument_seen c.args.look.now in
    let old = c.args.areas.now.items in
    let new = c.add_bytes.new.areas.items in
    on_ok_weaker c.add_bytes.result
    (λ e j h. adds_areas old (map byte_area a) new (IsArgumentByteOf j c.args.look.now.place)
    (subst (λ z. HaveSameBytes new (old ++ map byte_area z)) c.argument.ensures e)
    (λ b. let d = lies_in-bytes a b in let f = h.argument b in ((λ k. f.0 (d.0 k)), λ k. d.1 (f.1 k))))
    c.add_bytes.ensures.bytes
