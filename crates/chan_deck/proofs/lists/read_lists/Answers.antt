use Rattle.chan_deck.proofs.Names.{D2311, Heading, One, refl, with_lists}
use Rattle.chan_deck.proofs.LineRefusals.{was_read}
use Rattle.chan_deck.proofs.lists.read_lists.Goals as goal

pub loop-lists-preserved : goal.loop-lists-preserved
loop-lists-preserved c =
    let goes = rw c.in-Taken.is at c.in_ok-take.ensures in
    λ h t st. c.next_item-item.ensures.next.takes (with_lists h c.loop-lists.lists) (with_lists h c.take.new.self) (goes h) t (c.loop-lists.invariant h t st)

pub loop-lists-smaller : goal.loop-lists-smaller
loop-lists-smaller c =
    let goes = rw c.in-Taken.is at c.in_ok-take.ensures in
    let h : Heading = record { version = One; device = D2311; mask = 0; start = 0 } in
    was_read (with_lists h c.loop-lists.lists) (with_lists h c.take.new.self) _ _ c.next_item-item.result (goes h) c.next_item-item.ensures.shorter

pub returns-in-Refused : goal.returns-in-Refused
returns-in-Refused c =
    let bad = rw c.in-Refused.is at c.in_ok-take.ensures in
    let item = c.next_item-item.ensures.next in
    rw c.refused.ensures (λ h t st. item.refuses (with_lists h c.loop-lists.lists) c.in-Refused.cause refl (bad h) t (c.loop-lists.invariant h t st))
