-- What a `Deck` shows of itself.
use Rattle.chan_deck.specs.DeckValue.{DeckValue}
use Rattle.chan_deck.specs.declared.deck.Deck.TheInside.{Inside}

-- what a deck's fields hold
abbrev pub value_of_deck : Inside → DeckValue
value_of_deck d =
    record {
      version = d.version;
      device = d.device;
      mask = d.mask;
      start = d.start;
      extents = d.extents;
      fetch = d.fetch.items;
      store = d.store.items;
      storage = d.storage.items;
    }
