-- What a deck holds, and its one text.
use Rattle.std.specs.Prelude.{ℕ, zero, suc, ◌+◌, ◌/◌, ◌%◌, ◌≤◌, ◌≡◌, ◌==◌, ◌&&◌, Bool, true}
use Rattle.std.specs.Prelude.{List, [], ◌∷◌, ◌++◌, length, take, drop, map, if◌then◌else◌}
use Rattle.std.specs.List.{AllByRecursion}
use Rattle.ccw_core.specs.declared.areas.Area.{Area}
use Rattle.ckd_core.specs.declared.device.Device.{Device}
use Rattle.ckd_core.specs.Extents.{AreExtents}
use Rattle.ckd_core.specs.Mask.{is_mask}
use Rattle.chan_walk.specs.Limit.{IsLimit, usual_limit}
use Rattle.chan_deck.specs.Item.{Item, header, device, mask, start, limit, extent, fetch, store}
use Rattle.chan_deck.specs.Item.{storage, put, end, line, text, IsByte, IsAddress, IsArea}
use Rattle.chan_deck.specs.declared.version.VersionNumber.{VersionNumber}
use Rattle.chan_deck.specs.declared.version.VersionNumber.TheVariants as numbers
use Rattle.chan_deck.specs.declared.version.Version.{Version}
use Rattle.chan_deck.specs.declared.version.Version.TheVariants.{One, Two}
use Rattle.ccw_core.specs.declared.ccw.TheConstants.{STORAGE_LIMIT}

-- the number of a version
abbrev pub version_number : Version → ℕ
version_number One = 1
version_number (Two n) = 2

-- the limit on places in a version: in the first the usual one
abbrev pub limit_of : Version → ℕ
limit_of One = usual_limit
limit_of (Two n) = n

-- a limit that a line says is one that a job may have
abbrev pub HasLimit : Version → Type 0
HasLimit One = Unit {0}
HasLimit (Two n) = IsLimit n

-- storage and a job; the extents are pairs of first and last cylinder
pub record DeckValue : Type 0 where
  pub version : Version
  pub device : Device
  pub mask : ℕ
  pub start : ℕ
  pub extents : List (ℕ × ℕ)
  pub fetch : List Area
  pub store : List Area
  pub storage : List ℕ

-- which of these have a text: each number has digits enough, the mask is a file mask, a limit is
-- from 1 to 65,536, there are extents and they lie on the device, and storage is at most 16,777,216
-- bytes in whole doublewords
pub record IsDeck (d : DeckValue) : Type 0 where
  pub limit : HasLimit d.version
  pub mask : IsByte d.mask × (is_mask d.mask ≡ true)
  pub start : IsAddress d.start
  pub extents : AreExtents d.extents
  pub fetch : AllByRecursion IsArea d.fetch
  pub store : AllByRecursion IsArea d.store
  pub size : length d.storage ≤ STORAGE_LIMIT
  pub whole : length d.storage % 8 ≡ 0
  pub bytes : AllByRecursion IsByte d.storage

-- each byte is zero
abbrev pub is_zero : List ℕ → Bool
is_zero [] = true
is_zero (b ∷ bytes) = b == 0 && is_zero bytes

-- a put for each of so many doublewords that isn't zero, the first of them at an address
unfoldable pub puts : ℕ → ℕ → List ℕ → List Item
puts zero at bytes = []
puts (suc n) at bytes =
    if is_zero (take 8 bytes) then puts n (at + 8) (drop 8 bytes)
    else put at (take 8 bytes) ∷ puts n (at + 8) (drop 8 bytes)

-- what the line of an extent says
abbrev pub extent_of : ℕ × ℕ → Item
extent_of e = extent e.0 e.1

-- the header of a version
abbrev pub header_of : Version → VersionNumber
header_of One = numbers.One
header_of (Two n) = numbers.Two

-- what the line of the limit says, in a version that has one
abbrev pub limit_line : Version → List Item
limit_line One = []
limit_line (Two n) = limit n ∷ []

-- what the lines of a deck say, in order
abbrev pub items : DeckValue → List Item
items d =
    header (header_of d.version) ∷ device d.device ∷ mask d.mask ∷ start d.start
    ∷ limit_line d.version ++ map extent_of d.extents ++ map fetch d.fetch ++ map store d.store
    ++ storage (length d.storage) ∷ puts (length d.storage / 8) 0 d.storage ++ end ∷ []

-- the one text of a deck
abbrev pub spelling : DeckValue → List ℕ
spelling d = text (map line (items d))

-- the text spells the deck
abbrev pub Spells : List ℕ → DeckValue → Type 0
Spells t d = IsDeck d × (t ≡ spelling d)
