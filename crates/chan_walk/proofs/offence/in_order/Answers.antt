use Rattle.chan_walk.proofs.Names.{offence_number, rules}
use Rattle.std.proofs.lemmas.List.Sorted.{IsNonDecreasingBy-from_sort_by_key}
use Rattle.chan_walk.proofs.Algorithms.Listing.{increasing}
use Rattle.chan_walk.proofs.offence.in_order.Goals as goal

pub returns-clause-ordered : goal.returns-clause-ordered
returns-clause-ordered c =
    increasing c.args.offences.items c.sort_unstable_by_key.new.self.items
    (IsNonDecreasingBy-from_sort_by_key offence_number _ c.sort_unstable_by_key.ensures.sorted (λ a r q k. search rules))
    c.sort_unstable_by_key.ensures.permutation c.requires
