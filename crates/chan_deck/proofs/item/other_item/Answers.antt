use Rattle.chan_deck.proofs.Names.{device, end, extent, fetch, header, limit, mask, put, start, storage, store}
use Rattle.chan_deck.proofs.item.other_item.Goals as goal

pub returns : goal.returns
returns c = ((λ e. absurd cc), other)
  where
    other : (j : Rattle.chan_deck.specs.Item.Item) → Rattle.chan_deck.specs.Item.LineSays c.args.line.now j → ⊥
    other (fetch a) says = c.in_default-area_of.ensures a says.0 says.1
    other (store a) says = c.in_default-area_of-2.ensures a says.0 says.1
    other (extent a b) says = c.in_default.ensures a b says
    other (header h) says = c.in_default-header_of.ensures h says
    other (device d) says = c.in_default-device_of.ensures d says
    other (mask m) says = c.in_default-mask_of.ensures m says
    other (start a) says = c.in_default-start_of.ensures a says
    other (limit n) says = c.in_default-limit_of.ensures n says
    other (storage n) says = c.in_default-storage_of.ensures n says
    other (put a w) says = c.requires a w says
    other end says = c.if-is_word.ensures says.1
