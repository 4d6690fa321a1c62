-- As many places as an answer has at most aren't too many.
use Rattle.chan_walk.proofs.Names.{arith, IsReachable, Job, Place, ℕ}
use Rattle.chan_walk.specs.Answers.{FewIsNotMany, HasAtMost}
use Rattle.chan_walk.specs.Places.{HasMoreThan}
use Rattle.chan_walk.proofs.Algorithms.InOrder.{fewer}

pub few_is_not_many : FewIsNotMany
few_is_not_many j n few many =
    let l = fewer many.places few.places many.distinct (λ p h. few.are.each p (many.only p h)) in
    omega (arith, l, few.few, many.many)

-- nor are places that are reachable among them too many
pub few_among : (j k : Job) (n : ℕ) → ((p : Place) → IsReachable k p → IsReachable j p) → HasAtMost j n → HasMoreThan k n → ⊥
few_among j k n within few many =
    few_is_not_many j n few (record { places = many.places; distinct = many.distinct; many = many.many; only = λ p h. within p (many.only p h) })
