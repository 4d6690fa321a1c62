-- Reading a deck line by line: what the lines so far have said, and what one line more does to it.
use Rattle.std.specs.Prelude.{ℕ, ◌+◌, ◌-◌, ◌%◌, ◌<◌, ◌≡◌, ◌==◌, ◌&&◌, nat_lt, nat_le, not, Bool}
use Rattle.std.specs.Prelude.{true, false, List, [], ◌∷◌, ◌++◌, length, replicate, map}
use Rattle.std.specs.Prelude.{if◌then◌else◌, Option, Some, None, Result, Ok, Err, MatchResult}
use Rattle.std.specs.List.{AllByRecursion}
use Rattle.ccw_core.specs.declared.areas.Area.{Area}
use Rattle.ckd_core.specs.declared.device.Device.{Device}
use Rattle.ckd_core.specs.Mask.{is_mask}
use Rattle.chan_deck.specs.Item.{Item, header, device, mask, start, limit, extent, fetch, store}
use Rattle.chan_deck.specs.Item.{storage, put, end, line, HasForm, said_by}
use Rattle.chan_deck.specs.DeckValue.{DeckValue, is_zero}
use Rattle.chan_deck.specs.Refused.{split, is_size, is_limit, IsRefused}
use Rattle.chan_deck.specs.declared.version.VersionNumber.{VersionNumber}
use Rattle.chan_deck.specs.declared.version.VersionNumber.TheVariants as numbers
use Rattle.chan_deck.specs.declared.version.Version.TheVariants.{One, Two}
use Rattle.chan_deck.specs.declared.cause.Cause.{Cause}
use Rattle.chan_deck.specs.declared.cause.Cause.TheVariants as causes
use Rattle.chan_deck.specs.declared.heading.Heading.{Heading}
use Rattle.chan_deck.specs.declared.heading.Begun.{Begun}
use Rattle.chan_deck.specs.declared.heading.Begun.TheVariants as heads
use Rattle.chan_deck.specs.declared.heading.HeadingLine.{HeadingLine}
use Rattle.chan_deck.specs.declared.heading.HeadingLine.TheVariants as lines
use Rattle.chan_deck.specs.declared.item.Item as found
use Rattle.chan_deck.specs.declared.item.Item.TheVariants.{Missing}
use Rattle.chan_deck.specs.declared.lines.Cursor.{Cursor}
use Rattle.chan_deck.specs.declared.lists.Lists.{Lists}
use Rattle.chan_deck.specs.declared.lists.ListLine.{ListLine}
use Rattle.chan_deck.specs.declared.lists.ListLine.TheVariants.{Taken, Storage, Refused}
use Rattle.chan_deck.specs.declared.deck_error.DeckError.{DeckError}
use Rattle.chan_deck.specs.declared.deck_error.DeckError.TheVariants as errors
use Rattle.ckd_core.specs.declared.device.TheConstants.{LAST_CYLINDER}

-- what the lines so far said; in Started a limit has to come, and in Filling storage is known as
-- far as the last put reaches
pub data State : Type 0 where
  Opening : State
  Named : VersionNumber → State
  OnDevice : VersionNumber → Device → State
  Masked : VersionNumber → Device → ℕ → State
  Started : Device → ℕ → ℕ → State
  Listing : Heading → List (ℕ × ℕ) → List Area → List Area → State
  Filling : Heading → List (ℕ × ℕ) → List Area → List Area → ℕ → List ℕ → State
  Whole : DeckValue → State

-- some bytes, and zeros up to a length
abbrev pub pad : List ℕ → ℕ → List ℕ
pad bytes n = bytes ++ replicate (n - length bytes) 0

-- the image that the lines before the lists, the lists and the bytes of storage make
abbrev pub value_of : Heading → List (ℕ × ℕ) → List Area → List Area → List ℕ → DeckValue
value_of h es fs ss bytes =
    record {
      version = h.version;
      device = h.device;
      mask = h.mask;
      start = h.start;
      extents = es;
      fetch = fs;
      store = ss;
      storage = bytes;
    }

-- the list has nothing
abbrev pub is_empty : {X : Type 0} → List X → Bool
is_empty [] = true
is_empty (x ∷ xs) = false

-- where the line of the start leads: the limit comes next in version 2
abbrev pub on_start : VersionNumber → Device → ℕ → ℕ → State
on_start numbers.One v m a =
    Listing (record { version = One; device = v; mask = m; start = a }) [] [] []
on_start numbers.Two v m a = Started v m a

-- the line of the limit ends the heading, if a job may have it
abbrev pub on_limit : Device → ℕ → ℕ → ℕ → Result State Cause
on_limit v m a n =
    if is_limit n
    then Ok (Listing (record { version = Two n; device = v; mask = m; start = a }) [] [] [])
    else Err causes.Limit

-- an extent goes behind those before it, if its cylinders are in order and on the device
abbrev pub on_extent : Heading → List (ℕ × ℕ) → ℕ → ℕ → Result State Cause
on_extent h es first last =
    if nat_lt last first then Err causes.ExtentBackwards
    else if nat_lt LAST_CYLINDER last then Err causes.ExtentPastDevice
    else Ok (Listing h (es ++ (first, last) ∷ []) [] [])

-- the line of storage ends the lists, if storage may have so many bytes
abbrev pub on_storage : Heading → List (ℕ × ℕ) → List Area → List Area → ℕ → Result State Cause
on_storage h es fs ss n = if is_size n then Ok (Filling h es fs ss n []) else Err causes.Size

-- a put goes behind those before it, if it lies in storage and isn't zero
abbrev pub on_put : Heading → List (ℕ × ℕ) → List Area → List Area → ℕ → List ℕ → ℕ → List ℕ
    → Result State Cause
on_put h es fs ss n bytes a word =
    if a % 8 == 0 && nat_le (length bytes) a && nat_le (a + 8) n
    then (
    if is_zero word then Err causes.PutZero else Ok (Filling h es fs ss n (pad bytes a ++ word))
    )
    else Err causes.PutAddress

-- which forms may stand where reading stands
abbrev pub stands : State → Item → Bool
stands Opening (header h) = true
stands (Named h) (device v) = true
stands (OnDevice h v) (mask m) = true
stands (Masked h v m) (start a) = true
stands (Started v m a) (limit n) = true
stands (Listing h es fs ss) (extent first last) = is_empty fs && is_empty ss
stands (Listing h es fs ss) (fetch a) = not (is_empty es) && is_empty ss
stands (Listing h es fs ss) (store a) = not (is_empty es)
stands (Listing h es fs ss) (storage n) = not (is_empty es)
stands (Filling h es fs ss n bytes) (put a word) = true
stands (Filling h es fs ss n bytes) end = true
stands _ _ = false

-- the cause for a line of no form that may stand
abbrev pub no_form : State → Cause
no_form Opening = causes.Header
no_form (Whole d) = causes.After
no_form _ = causes.Form

-- what a line that may stand does to what the lines before it said
abbrev pub after_item : State → Item → Result State Cause
after_item Opening (header h) = Ok (Named h)
after_item (Named h) (device v) = Ok (OnDevice h v)
after_item (OnDevice h v) (mask m) = if is_mask m then Ok (Masked h v m) else Err causes.Mask
after_item (Masked h v m) (start a) = Ok (on_start h v m a)
after_item (Started v m a) (limit n) = on_limit v m a n
after_item (Listing h es fs ss) (extent first last) = on_extent h es first last
after_item (Listing h es fs ss) (fetch a) = Ok (Listing h es (fs ++ a ∷ []) ss)
after_item (Listing h es fs ss) (store a) = Ok (Listing h es fs (ss ++ a ∷ []))
after_item (Listing h es fs ss) (storage n) = on_storage h es fs ss n
after_item (Filling h es fs ss n bytes) (put a word) = on_put h es fs ss n bytes a word
after_item (Filling h es fs ss n bytes) end = Ok (Whole (value_of h es fs ss (pad bytes n)))
after_item s _ = Err (no_form s)

-- what a line does to what the lines before it said
abbrev pub step : State → Item → Result State Cause
step s i = if stands s i then after_item s i else Err (no_form s)

-- what a line does that says this, or has none of the forms
abbrev pub after_line : State → Option Item → Result State Cause
after_line s None = Err (no_form s)
after_line s (Some i) = step s i

-- goes on behind a line that was taken, and not behind one that was refused
abbrev pub and_then : Result State Cause → (State → Result State Cause) → Result State Cause
and_then (Ok s) more = more s
and_then (Err c) more = Err c

-- what some lines do, one after another
abbrev pub run : State → List Item → Result State Cause
run s [] = Ok s
run s (i ∷ is) = and_then (step s i) (λ next. run next is)

-- the text has been read up to line n, from which on rest is left, and what was read is the state
pub record HasRead (t : List ℕ) (s : State) (n : ℕ) (rest : List ℕ) : Type 0 where
  pub said : List Item
  pub forms : AllByRecursion HasForm said
  pub runs : run Opening said ≡ Ok s
  pub parts : split t ≡ (map line said ++ (split rest).0, (split rest).1)
  pub number : n ≡ length said + 1

-- the error is that of the text, or says that an allocation failed
abbrev pub IsDeckError : List ℕ → DeckError → Type 0
IsDeckError t (errors.At n c) = IsRefused t n c
IsDeckError t errors.Memory = Unit {0}

-- what was read is the state, and the cursor stands behind it
abbrev pub HasReadTo : List ℕ → State → Cursor → Type 0
HasReadTo t s c = HasRead t s (c.line + 1) c.rest.now

-- wherever reading stands so, it goes on to stand otherwise
abbrev pub ReadingGoesOn : State → Cursor → State → Cursor → Type 0
ReadingGoesOn s c next d = (t : List ℕ) → HasReadTo t s c → HasReadTo t next d

-- wherever reading stands so, the error is that of the text, or says that an allocation failed
abbrev pub ReadingFails : State → Cursor → DeckError → Type 0
ReadingFails s c e = (t : List ℕ) → HasReadTo t s c → IsDeckError t e

-- reading goes on to what is made of what was read, or it fails
abbrev pub LeadsOrFails : {X : Type 0} → State → Cursor → Result X DeckError → (X → State)
    → Cursor → Type 0
LeadsOrFails s c result next d =
    MatchResult result (λ x. ReadingGoesOn s c (next x) d) (ReadingFails s c)

-- a deck is whole
abbrev pub is_whole : State → Bool
is_whole (Whole d) = true
is_whole _ = false

-- the refusal of line n, which was read last, or of the text's end where none was left
abbrev pub refusal : ℕ → found.Item → Cause → DeckError
refusal n Missing cause = errors.At (n + 1) causes.Ended
refusal n i cause = errors.At n cause

-- the next line of the text says this, or has none of the forms, or none is left
pub record IsNextLine (c : Cursor) (i : found.Item) (d : Cursor) : Type 0 where
  pub takes : (s next : State) → after_line s (said_by i) ≡ Ok next → ReadingGoesOn s c next d
  pub refuses :
      (s : State) (cause : Cause) → is_whole s ≡ false → after_line s (said_by i) ≡ Err cause
      → ReadingFails s c (refusal d.line i cause)

-- fewer bytes are left, if a line was read
abbrev pub IsLessLeft : ℕ → found.Item → ℕ → Type 0
IsLessLeft old Missing new = Unit {0}
IsLessLeft old i new = new < old

-- what the lines of a heading have said so far
abbrev pub begun_state : Begun → State
begun_state heads.Opening = Opening
begun_state (heads.Named h) = Named h
begun_state (heads.OnDevice h v) = OnDevice h v
begun_state (heads.Masked h v m) = Masked h v m
begun_state (heads.Started v m a) = Started v m a

-- what came of a line of the heading
abbrev pub headed : HeadingLine → Result State Cause
headed (lines.Taken b) = Ok (begun_state b)
headed (lines.Whole h) = Ok (Listing h [] [] [])
headed (lines.Refused c) = Err c

-- what the lists of a deck have so far, and the lines before them
abbrev pub with_lists : Heading → Lists → State
with_lists h x = Listing h x.extents.items x.fetch.items x.store.items

-- what came of a line of the lists
abbrev pub after_list_line : Heading → Lists → ListLine → Result State Cause
after_list_line h x Taken = Ok (with_lists h x)
after_list_line h x (Storage n) = Ok (Filling h x.extents.items x.fetch.items x.store.items n [])
after_list_line h x (Refused c) = Err c
