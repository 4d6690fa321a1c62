-- A deck from its parts: an image of storage that begins at an address, and the job.
use Rattle.std.specs.Prelude.{ℕ, ◌-◌, List, ◌++◌, length, replicate, Option, Some, None}
use Rattle.std.specs.Int.{next_multiple_of}
use Rattle.std.specs.List.{AllByRecursion}
use Rattle.chan_deck.specs.Item.{IsAddress, IsArea}
use Rattle.chan_deck.specs.DeckValue.{DeckValue}
use Rattle.chan_deck.specs.declared.parts.Parts.{Parts}
use Rattle.chan_deck.specs.declared.version.Version.{Version}
use Rattle.chan_deck.specs.declared.version.Version.TheVariants.{One, Two}

-- so many bytes that are zero
abbrev pub zeros : ℕ → List ℕ
zeros n = replicate n 0

-- some bytes, and zeros behind them up to a multiple of 8
abbrev pub in_doublewords : List ℕ → List ℕ
in_doublewords bytes = bytes ++ zeros (next_multiple_of (length bytes) 8 - length bytes)

-- storage in which an image begins at an address: before the image, and behind it up to a multiple
-- of 8, it is zero
abbrev pub storage_with : ℕ → List ℕ → List ℕ
storage_with at image = in_doublewords (zeros at ++ image)

-- the version of a deck that says a limit, or none
abbrev pub version_with : Option ℕ → Version
version_with None = One
version_with (Some n) = Two n

-- what the parts make; it has a text where the image ends in storage and each number has six digits
abbrev pub value_of_parts : Parts → DeckValue
value_of_parts p =
    record {
      version = version_with p.limit;
      device = p.device;
      mask = p.mask;
      start = p.start;
      extents = p.extents.now;
      fetch = p.fetch.now;
      store = p.store.now;
      storage = storage_with p.at p.image.now;
    }

-- six digits are enough for the start, and for the start and the length of each area
abbrev pub HasShortAddresses : Parts → Type 0
HasShortAddresses p =
    IsAddress p.start × AllByRecursion IsArea p.fetch.now × AllByRecursion IsArea p.store.now
