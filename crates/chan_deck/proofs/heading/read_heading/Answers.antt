use Rattle.chan_deck.proofs.Names.{begun_state, false, is_whole, refl, ◌≡◌}
use Rattle.chan_deck.specs.declared.heading.Begun.{Begun}
use Rattle.chan_deck.specs.declared.heading.Begun.TheVariants.{Opening}
use Rattle.chan_deck.proofs.heading.read_heading.Goals as goal

open_yet : (b : Begun) → is_whole (begun_state b) ≡ false
open_yet Opening = refl
open_yet b = refl

pub returns-in-Refused : goal.returns-in-Refused
returns-in-Refused c =
    let bad = rw c.in-Refused.is at c.take.ensures in
    let s = begun_state c.loop-more.begun in
    rw c.refused.ensures (λ t st. c.next_item-item.ensures.next.refuses s c.in-Refused.cause (open_yet c.loop-more.begun) bad t (c.loop-more.invariant t st))
