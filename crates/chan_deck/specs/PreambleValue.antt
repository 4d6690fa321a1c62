-- What a deck says before its storage.
use Rattle.std.specs.Prelude.{ℕ, List}
use Rattle.chan_deck.specs.DeckValue.{DeckValue}
use Rattle.chan_deck.specs.declared.writing.Preamble.{Preamble}

-- what says this, with this storage
abbrev pub value_of_preamble : Preamble → List ℕ → DeckValue
value_of_preamble p bytes =
    record {
      version = p.version;
      device = p.device;
      mask = p.mask;
      start = p.start;
      extents = p.extents.now;
      fetch = p.fetch.now;
      store = p.store.now;
      storage = bytes;
    }
