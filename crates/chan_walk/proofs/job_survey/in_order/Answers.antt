use Rattle.chan_walk.proofs.Names.{rules}
use Rattle.std.proofs.lemmas.List.Sorted.{IsNonDecreasingBy-from_sort_by_key}
use Rattle.chan_walk.proofs.Algorithms.Sorting.{increasing, number, same_elements}
use Rattle.chan_walk.proofs.job_survey.in_order.Goals as goal

pub returns : goal.returns
returns c =
    let is = c.in_ok-sort_by_cached_key.ensures in
    let sorted = c.sort_by_cached_key.new.self.items in
    record {
      ordered = increasing c.args.looks.items sorted
          (IsNonDecreasingBy-from_sort_by_key number _ is.sorted (λ a r q k. search rules)) is.permutation c.requires;
      same = λ l. same_elements c.args.looks.items sorted l is.permutation;
    }
