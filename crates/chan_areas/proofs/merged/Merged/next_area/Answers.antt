use Rattle.std.proofs.Common.{rules, leb, subst}
use Rattle.std.proofs.lemmas.List.Sorted.{IsPartitionPoint-from_clause, IsPartitionedBy-leb}
use Rattle.ccw_core.specs.declared.areas.Area.{Area}
use Rattle.ccw_core.specs.Areas.{end_of}
use Rattle.chan_areas.specs.Merged.{IsNextArea}
use Rattle.chan_areas.proofs.Searching.{merged_ends, IsCut, found}
use Rattle.chan_areas.proofs.merged.Merged.next_area.Goals as goal

pub returns : goal.returns
returns c =
    let xs = c.as_slice-areas.result.now in
    let n = c.args.address in
    let is = c.as_slice-areas.ensures in
    let parted = IsPartitionedBy-leb end_of xs n (merged_ends xs is.merged) in
    let cut : IsCut xs n c.partition_point-at.result =
    IsPartitionPoint-from_clause (λ (a : Area). leb (end_of a) n) _ _ c.partition_point-at.ensures.partitioned parted (λ a r q k. search rules) in
    subst (λ ys. IsNextArea ys n c.copied.result) is.areas
    (rw c.copied.ensures (found xs n c.partition_point-at.result c.get.result is.merged is.low cut c.partition_point-at.ensures.bound c.get.ensures.lookup.3))
