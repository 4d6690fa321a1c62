use Rattle.std.proofs.lemmas.List.Filters.{dedup_is}
use Rattle.std.proofs.lemmas.Map.Keys.{IsStrictlyIncreasing-dedup}
use Rattle.chan_why.proofs.Noted.{same_once}
use Rattle.chan_why.proofs.notes.each_once.Goals as goal

pub returns-clause-rising : goal.returns-clause-rising
returns-clause-rising c = let is = dedup_is _ _ _ c.dedup.ensures.filtered in rw is (IsStrictlyIncreasing-dedup _ c.sort_unstable.ensures.sorted)

pub returns-clause-same : goal.returns-clause-same
returns-clause-same c a =
    let is = dedup_is _ _ _ c.dedup.ensures.filtered in
    rw is (same_once _ _ a c.sort_unstable.ensures.permutation)
