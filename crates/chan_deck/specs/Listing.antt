-- The listing: a row for each place that a program can come to, and the line of the verdict.
use Rattle.std.specs.Prelude.{◌≡◌, ℕ, ◌==◌, Bool, true, false, List, ◌∷◌, [], ◌++◌, codes, Option}
use Rattle.std.specs.Prelude.{Some, None, if◌then◌else◌}
use Rattle.std.specs.List.{flat_map}
use Rattle.ccw_core.specs.Ccw.{Fields, ccw_text, is_transfer}
use Rattle.ccw_core.specs.Storage.{ccw_at}
use Rattle.ckd_core.specs.Command.{lookup}
use Rattle.ckd_core.specs.Command as table
use Rattle.chan_walk.specs.declared.place.Entry.{Entry}
use Rattle.chan_walk.specs.declared.place.Entry.TheVariants.{Fresh, ChainIn, ChainOut, ChainSearch}
use Rattle.chan_walk.specs.declared.place.Place.{Place}
use Rattle.chan_walk.specs.declared.verdict.Verdict.{Verdict}
use Rattle.chan_walk.specs.declared.verdict.Verdict.TheVariants.{Yes, No}
use Rattle.chan_walk.specs.Look.{Seen}
use Rattle.chan_walk.specs.Place.{is_fresh}
use Rattle.chan_deck.specs.VerdictLine.{address_text, verdict_line}

-- how a CCW is entered: by a new operation, or by the data chain of one that stores, fetches or
-- searches
abbrev pub way_word : Entry → List ℕ
way_word Fresh = codes "fresh"
way_word ChainIn = codes "in"
way_word ChainOut = codes "out"
way_word ChainSearch = codes "search"

-- `t` where the place counts as reached by a transfer in channel
abbrev pub transfer_word : Bool → List ℕ
transfer_word true = codes "t"
transfer_word false = codes "-"

-- `*` where the row is marked
abbrev pub mark_word : Bool → List ℕ
mark_word true = codes "*"
mark_word false = codes "."

-- a command's name, or `unknown` for a code that isn't in the table
abbrev pub command_name : Option table.CommandEntry → List ℕ
command_name None = codes "unknown"
command_name (Some e) = e.name

-- the command of a CCW's code
abbrev pub command_of : Option Fields → Option table.CommandEntry
command_of None = None
command_of (Some c) = lookup c.command

-- what a CCW is to the operation: a transfer, a part of a data chain, where its code is ignored, or
-- this command
abbrev pub operation_name : Entry → Fields → Option table.CommandEntry → List ℕ
operation_name entered c command =
    if is_transfer c then codes "transfer-in-channel"
    else if is_fresh entered then command_name command
    else codes "chained"

-- the CCW and its name, where one stands
abbrev pub word_text : Entry → Option Fields → Option table.CommandEntry → List ℕ
word_text entered None command = codes "no-ccw"
word_text entered (Some c) command = ccw_text c ++ codes " " ++ operation_name entered c command

-- a CCW with the name of the command that begins there, and a line feed
abbrev pub ccw_line : Fields → List ℕ
ccw_line c = word_text Fresh (Some c) (lookup c.command) ++ 10 ∷ []

-- `address way transfer mark ccw name`, for a place at which this CCW stands with this command
abbrev pub row_words : Place → Option Fields → Option table.CommandEntry → Bool → List ℕ
row_words p c command marked =
    address_text p.address ++ codes " " ++ way_word p.entered ++ codes " "
    ++ transfer_word p.after_transfer ++ codes " " ++ mark_word marked ++ codes " "
    ++ word_text p.entered c command

-- the same with its line feed
abbrev pub row_with : Place → Option Fields → Option table.CommandEntry → Bool → List ℕ
row_with p c command marked = row_words p c command marked ++ 10 ∷ []

-- the row of a place in this storage
abbrev pub row : List ℕ → Place → Bool → List ℕ
row s p marked = row_with p (ccw_at s p.address) (command_of (ccw_at s p.address)) marked

-- the verdict names this address
abbrev pub is_named : Verdict → ℕ → Bool
is_named Yes a = false
is_named (No address reason) a = address == a

-- the row of a place, which is marked where the verdict names its address
abbrev pub marked_row : List ℕ → Verdict → Place → List ℕ
marked_row s v p = row s p (is_named v p.address)

-- a row for each of these places
abbrev pub rows : List ℕ → Verdict → List Place → List ℕ
rows s v ps = flat_map (marked_row s v) ps

-- the whole listing
abbrev pub listing : List ℕ → List Place → Verdict → List ℕ
listing s ps v = rows s v ps ++ verdict_line v

-- the last line of a wide listing is the verdict's; tests hold the rows
abbrev pub IsWideListing : Verdict → List ℕ → Type 0
IsWideListing v text = (rows : List ℕ) × (text ≡ rows ++ verdict_line v)

-- the row of what a look at a place showed
abbrev pub seen_row : Verdict → Seen → List ℕ
seen_row v l = row_with l.place l.ccw l.command (is_named v l.place.address)

-- the listing of what was seen
abbrev pub seen_listing : List Seen → Verdict → List ℕ
seen_listing ls v = flat_map (seen_row v) ls ++ verdict_line v
