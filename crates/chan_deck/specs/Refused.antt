-- Where a text that spells no deck is refused, and why.
use Rattle.std.specs.Prelude.{ℕ, ◌+◌, ◌-◌, ◌%◌, ◌<◌, ◌≤◌, ◌≡◌, ◌≢◌, ◌==◌, ◌&&◌, ◌⊎◌, nat_lt, nat_le}
use Rattle.std.specs.Prelude.{not, Bool, true, false, MatchBool, List, [], ◌∷◌, ◌++◌, length, take}
use Rattle.std.specs.Prelude.{drop, map, if◌then◌else◌, Option, Some, None}
use Rattle.std.specs.List.{AllByRecursion}
use Rattle.ckd_core.specs.Mask.{is_mask}
use Rattle.chan_deck.specs.Item.{Item, header, device, mask, start, limit, extent, fetch, store}
use Rattle.chan_deck.specs.Item.{storage, put, end, line, text, HasForm, LineSays}
use Rattle.chan_deck.specs.DeckValue.{DeckValue, Spells, is_zero}
use Rattle.chan_deck.specs.declared.version.VersionNumber.{VersionNumber}
use Rattle.chan_deck.specs.declared.version.VersionNumber.TheVariants as numbers
use Rattle.chan_deck.specs.declared.cause.Cause.{Cause}
use Rattle.chan_deck.specs.declared.cause.Cause.TheVariants.{Ended, Header, Form, Mask}
use Rattle.chan_deck.specs.declared.cause.Cause.TheVariants.{ExtentBackwards, ExtentPastDevice}
use Rattle.chan_deck.specs.declared.cause.Cause.TheVariants.{Size, PutAddress, PutZero, After}
use Rattle.chan_deck.specs.declared.cause.Cause.TheVariants.{Limit}
use Rattle.ckd_core.specs.declared.device.TheConstants.{LAST_CYLINDER}
use Rattle.ccw_core.specs.declared.ccw.TheConstants.{STORAGE_LIMIT}

abbrev pub onto_first : ℕ → List (List ℕ) × List ℕ → List (List ℕ) × List ℕ
onto_first b ([], rest) = ([], b ∷ rest)
onto_first b (l ∷ ls, rest) = ((b ∷ l) ∷ ls, rest)

-- a text as its whole lines, and what stands behind the last line feed
unfoldable pub split : List ℕ → List (List ℕ) × List ℕ
split [] = ([], [])
split (b ∷ bytes) =
    if b == 10 then ([] ∷ (split bytes).0, (split bytes).1) else onto_first b (split bytes)

-- the whole lines of a text
abbrev pub lines : List ℕ → List (List ℕ)
lines t = (split t).0

-- the first n whole lines, as text
abbrev pub first_lines : ℕ → List ℕ → List ℕ
first_lines n t = text (take n (lines t))

-- some deck's text begins so
abbrev pub BeginsSomeDeck : List ℕ → Type 0
BeginsSomeDeck front = (d : DeckValue) × (rest : List ℕ) × Spells (front ++ rest) d

-- n is the least number of whole lines with which no deck's text begins; if there is none, one more
-- than there are lines
pub record IsRefusedAt (t : List ℕ) (n : ℕ) : Type 0 where
  pub least : (m : ℕ) → m < n → BeginsSomeDeck (first_lines m t)
  pub here : n ≤ length (lines t) → BeginsSomeDeck (first_lines n t) → ⊥
  pub within : n ≤ length (lines t) + 1

abbrev pub last_of : List Item → Option Item
last_of [] = None
last_of (i ∷ []) = Some i
last_of (i ∷ j ∷ is) = last_of (j ∷ is)

-- the header of version 2 stands first
abbrev pub is_second : List Item → Bool
is_second (header numbers.Two ∷ is) = true
is_second is = false

-- which forms may stand behind a line of a deck, of version 2 or not, and which at the start
abbrev pub may_stand : Bool → Option Item → Item → Bool
may_stand second None (header h) = true
may_stand second (Some (header h)) (device e) = true
may_stand second (Some (device d)) (mask m) = true
may_stand second (Some (mask m)) (start a) = true
may_stand second (Some (start a)) (limit n) = second
may_stand second (Some (start a)) (extent b c) = not second
may_stand second (Some (limit n)) (extent b c) = true
may_stand second (Some (extent a b)) (extent c d) = true
may_stand second (Some (extent a b)) (fetch c) = true
may_stand second (Some (extent a b)) (store c) = true
may_stand second (Some (extent a b)) (storage n) = true
may_stand second (Some (fetch a)) (fetch c) = true
may_stand second (Some (fetch a)) (store c) = true
may_stand second (Some (fetch a)) (storage n) = true
may_stand second (Some (store a)) (store c) = true
may_stand second (Some (store a)) (storage n) = true
may_stand second (Some (storage n)) (put a w) = true
may_stand second (Some (storage n)) end = true
may_stand second (Some (put a w)) (put b v) = true
may_stand second (Some (put a w)) end = true
may_stand second _ _ = false

-- what may stand behind some lines
abbrev pub may_follow : List Item → Item → Bool
may_follow before i = may_stand (is_second before) (last_of before) i

abbrev pub is_end : Option Item → Bool
is_end (Some end) = true
is_end _ = false

-- the line `end` has come
abbrev pub has_ended : List Item → Bool
has_ended before = is_end (last_of before)

-- how many bytes the line of storage says
abbrev pub size_said : List Item → ℕ
size_said [] = 0
size_said (storage n ∷ is) = n
size_said (i ∷ is) = size_said is

-- a number of bytes that storage may have
abbrev pub is_size : ℕ → Bool
is_size n = n % 8 == 0 && nat_le n STORAGE_LIMIT

-- a limit that a job may have
abbrev pub is_limit : ℕ → Bool
is_limit n = nat_le 1 n && nat_le n 65536

-- above the address of the put before it, where there is one
abbrev pub is_above : Option Item → ℕ → Bool
is_above (Some (put b w)) a = nat_lt b a
is_above _ a = true

-- a put behind these lines may have the address
abbrev pub is_place : List Item → ℕ → Bool
is_place before a = a % 8 == 0 && is_above (last_of before) a && nat_le (a + 8) (size_said before)

-- what stands at the place of a line: the line, or what is left without a line feed
pub data FoundLine : Type 0 where
  whole_line : List ℕ → FoundLine
  part : List ℕ → FoundLine

-- the table of causes: when each applies to what is found behind these lines, among which `end` is
-- not
abbrev pub Applies : List Item → FoundLine → Cause → Type 0
Applies before (part rest) Ended = Unit {0}
Applies before (whole_line l) Header = (before ≡ []) × ((h : VersionNumber) → l ≢ line (header h))
Applies before (whole_line l) Form = (i : Item) → LineSays l i → may_follow before i ≡ false
Applies before (whole_line l) Mask = (m : ℕ) × LineSays l (mask m) × (is_mask m ≡ false)
Applies before (whole_line l) ExtentBackwards =
    (first : ℕ) × (last : ℕ) × LineSays l (extent first last) × (last < first)
Applies before (whole_line l) ExtentPastDevice =
    (first : ℕ) × (last : ℕ) × LineSays l (extent first last) × (LAST_CYLINDER < last)
Applies before (whole_line l) Size = (n : ℕ) × LineSays l (storage n) × (is_size n ≡ false)
Applies before (whole_line l) PutAddress =
    (a : ℕ) × (word : List ℕ) × LineSays l (put a word) × (is_place before a ≡ false)
Applies before (whole_line l) PutZero =
    (a : ℕ) × (word : List ℕ) × LineSays l (put a word) × (is_zero word ≡ true)
Applies before (whole_line l) Limit = (n : ℕ) × LineSays l (limit n) × (is_limit n ≡ false)
Applies before found cause = ⊥

-- behind `end` the cause After alone applies, whatever stands there
abbrev pub AppliesBehindEnd : FoundLine → Cause → Type 0
AppliesBehindEnd (whole_line l) After = Unit {0}
AppliesBehindEnd (part (b ∷ rest)) After = Unit {0}
AppliesBehindEnd found cause = ⊥

-- the cause applies to what is found behind these lines
abbrev pub CountsAgainst : List Item → FoundLine → Cause → Type 0
CountsAgainst before found cause =
    MatchBool (has_ended before) (AppliesBehindEnd found cause) (Applies before found cause)

-- the place of a cause in the table
abbrev pub rank : Cause → ℕ
rank Ended = 1
rank Header = 2
rank Form = 3
rank Mask = 4
rank ExtentBackwards = 5
rank ExtentPastDevice = 6
rank Size = 7
rank PutAddress = 8
rank PutZero = 9
rank After = 10
rank Limit = 11

-- the first cause of the table that applies
pub record IsDeckCause (before : List Item) (found : FoundLine) (cause : Cause) : Type 0 where
  pub applies : CountsAgainst before found cause
  pub first : (other : Cause) → rank other < rank cause → CountsAgainst before found other → ⊥

-- what comes first of some whole lines and what is left
abbrev pub found_in : List (List ℕ) → List ℕ → FoundLine
found_in [] rest = part rest
found_in (l ∷ ls) rest = whole_line l

-- what is found behind n whole lines
abbrev pub found_behind : ℕ → List ℕ → FoundLine
found_behind n t = found_in (drop n (lines t)) (split t).1

-- these are what the first n whole lines say
abbrev pub AreSaid : ℕ → List ℕ → List Item → Type 0
AreSaid n t before = AllByRecursion HasForm before × (map line before ≡ take n (lines t))

-- the text spells no deck; it is refused at line n, for this cause
pub record IsRefused (t : List ℕ) (n : ℕ) (cause : Cause) : Type 0 where
  pub none : (d : DeckValue) → Spells t d → ⊥
  pub at_line : IsRefusedAt t n
  pub for_cause :
      (before : List Item) × AreSaid (n - 1) t before
      × IsDeckCause before (found_behind (n - 1) t) cause

-- the text spells a deck, or it is refused at some line for some cause
abbrev pub IsDeckOrRefused : List ℕ → Type 0
IsDeckOrRefused t =
    ((d : DeckValue) × Spells t d) ⊎ ((n : ℕ) × (cause : Cause) × IsRefused t n cause)
