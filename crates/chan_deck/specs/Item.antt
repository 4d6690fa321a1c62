-- What a line of a deck says, and the one way to spell it.
use Rattle.std.specs.Prelude.{ℕ, ◌+◌, ◌/◌, ◌%◌, ◌<◌, ◌^◌, ◌≡◌, ◌≢◌, List, [], ◌∷◌, ◌++◌, length}
use Rattle.std.specs.Prelude.{codes, drop, Option, Some, None, MatchOption}
use Rattle.std.specs.Int.{bytes_high_first, w64, to_be_bytes}
use Rattle.std.specs.List.{flat_map, AllByRecursion}
use Rattle.hex.specs.Hex.{encode_upper}
use Rattle.ccw_core.specs.declared.areas.Area.{Area}
use Rattle.ckd_core.specs.declared.device.Device.{Device}
use Rattle.ckd_core.specs.declared.device.Device.TheVariants.{D2311, D2314}
use Rattle.chan_deck.specs.declared.item.Item as said
use Rattle.chan_deck.specs.declared.item.Item.TheVariants as found
use Rattle.chan_deck.specs.declared.version.VersionNumber.{VersionNumber}
use Rattle.chan_deck.specs.declared.version.VersionNumber.TheVariants as numbers
use Rattle.ccw_core.specs.declared.ccw.TheConstants.{STORAGE_LIMIT}

-- what a line says
pub data Item : Type 0 where
  header : VersionNumber → Item
  device : Device → Item
  mask : ℕ → Item
  start : ℕ → Item
  limit : ℕ → Item
  extent : ℕ → ℕ → Item
  fetch : Area → Item
  store : Area → Item
  storage : ℕ → Item
  put : ℕ → List ℕ → Item
  end : Item

-- two hexadecimal digits
abbrev pub byte_digits : ℕ → List ℕ
byte_digits n = encode_upper (n ∷ [])

-- six hexadecimal digits
abbrev pub address_digits : ℕ → List ℕ
address_digits n = encode_upper (bytes_high_first 3 n)

-- seven hexadecimal digits: eight without the first, which is zero
abbrev pub size_digits : ℕ → List ℕ
size_digits n = drop 1 (encode_upper (bytes_high_first 4 n))

-- three decimal digits
abbrev pub cylinder_digits : ℕ → List ℕ
cylinder_digits n = (48 + n / 100) ∷ (48 + n / 10 % 10) ∷ (48 + n % 10) ∷ []

-- five decimal digits
abbrev pub limit_digits : ℕ → List ℕ
limit_digits n =
    (48 + n / 10000) ∷ (48 + n / 1000 % 10) ∷ (48 + n / 100 % 10) ∷ (48 + n / 10 % 10)
    ∷ (48 + n % 10) ∷ []

-- the version that a header names
abbrev pub header_digit : VersionNumber → List ℕ
header_digit numbers.One = codes "1"
header_digit numbers.Two = codes "2"

abbrev pub device_digits : Device → List ℕ
device_digits D2311 = codes "2311"
device_digits D2314 = codes "2314"

-- start and length of an area
abbrev pub area_digits : Area → List ℕ
area_digits a = address_digits a.start ++ (codes " " ++ address_digits a.len)

-- the line, without its line feed
abbrev pub line : Item → List ℕ
line (header h) = codes "chanv deck " ++ header_digit h
line (device d) = codes "device " ++ device_digits d
line (mask m) = codes "mask " ++ byte_digits m
line (start a) = codes "start " ++ address_digits a
line (limit n) = codes "limit " ++ limit_digits n
line (extent first last) =
    codes "extent " ++ (cylinder_digits first ++ (codes " " ++ cylinder_digits last))
line (fetch a) = codes "fetch " ++ area_digits a
line (store a) = codes "store " ++ area_digits a
line (storage n) = codes "storage " ++ size_digits n
line (put a word) = codes "put " ++ (address_digits a ++ (codes " " ++ encode_upper word))
line end = codes "end"

abbrev pub IsByte : ℕ → Type 0
IsByte b = b < 256

-- what an address has digits for
abbrev pub IsAddress : ℕ → Type 0
IsAddress a = a < STORAGE_LIMIT

abbrev pub IsArea : Area → Type 0
IsArea a = IsAddress a.start × IsAddress a.len

-- eight bytes
abbrev pub IsWord : List ℕ → Type 0
IsWord word = (length word ≡ 8) × AllByRecursion IsByte word

-- there are digits enough for what is said
abbrev pub HasForm : Item → Type 0
HasForm (header h) = Unit {0}
HasForm (device d) = Unit {0}
HasForm (mask m) = IsByte m
HasForm (start a) = IsAddress a
HasForm (limit n) = n < 100000
HasForm (extent first last) = (first < 1000) × (last < 1000)
HasForm (fetch a) = IsArea a
HasForm (store a) = IsArea a
HasForm (storage n) = n < 2 ^ 28
HasForm (put a word) = IsAddress a × IsWord word
HasForm end = Unit {0}

-- the line says this
abbrev pub LineSays : List ℕ → Item → Type 0
LineSays l i = HasForm i × (l ≡ line i)

-- what an item of the reader says, if it says something
abbrev pub said_by : said.Item → Option Item
said_by (found.Header h) = Some (header h)
said_by (found.Device d) = Some (device d)
said_by (found.Mask m) = Some (mask m)
said_by (found.Start a) = Some (start a)
said_by (found.Limit n) = Some (limit n)
said_by (found.Extent first last) = Some (extent first last)
said_by (found.Fetch a) = Some (fetch a)
said_by (found.Store a) = Some (store a)
said_by (found.Storage n) = Some (storage n)
said_by (found.Put a n) = Some (put a (to_be_bytes w64 n))
said_by found.End = Some end
said_by i = None

-- what such a line is, without its line feed
abbrev pub spelled : Option Item → List ℕ
spelled (Some i) = line i
spelled None = []

-- three decimal digits are enough for each cylinder, and five for the number of places
abbrev pub HasDecimals : said.Item → Type 0
HasDecimals (found.Limit n) = n < 100000
HasDecimals (found.Extent first last) = (first < 1000) × (last < 1000)
HasDecimals i = Unit {0}

-- the line says this, or nothing
abbrev pub LineSaysIfAny : List ℕ → Option Item → Type 0
LineSaysIfAny l o = MatchOption o ((i : Item) → LineSays l i → ⊥) (λ i. LineSays l i)

-- this was read of the line
abbrev pub LineReads : List ℕ → said.Item → Type 0
LineReads l i = (i ≢ found.Missing) × LineSaysIfAny l (said_by i)

-- lines as a text: each has a line feed at its end
abbrev pub text : List (List ℕ) → List ℕ
text lines = flat_map (λ l. l ++ 10 ∷ []) lines
