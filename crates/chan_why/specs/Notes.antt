-- What a verdict leaves open: CCWs that interrupt, and CCWs at which a program ends though chain
-- data is on.
use Rattle.std.specs.Prelude.{◌≡◌, ℕ, Bool, true, false, not, ◌&&◌, ◌⊎◌, ◌↔◌}
use Rattle.std.specs.Prelude.{List, Option, None, Some, IsTrue}
use Rattle.std.specs.List.Sorted.{IsStrictlyIncreasing}
use Rattle.ccw_core.specs.Ccw.{Fields, chains_data, is_on, is_transfer}
use Rattle.ckd_core.specs.declared.command.Kind.{Kind}
use Rattle.ckd_core.specs.declared.command.Kind.TheVariants.{Idle, Inward, Outward, Search}
use Rattle.ckd_core.specs.Command.{CommandEntry, lookup}
use Rattle.chan_walk.specs.declared.job.Job.{Job}
use Rattle.chan_walk.specs.declared.place.Place.{Place}
use Rattle.chan_walk.specs.Argument.{Has}
use Rattle.chan_walk.specs.Fault.{is_known, kind_of}
use Rattle.chan_walk.specs.Look.{Seen}
use Rattle.chan_walk.specs.Moved.{PassesTest}
use Rattle.chan_walk.specs.Place.{is_fresh}
use Rattle.chan_walk.specs.Reachable.{IsReachable}
use Rattle.chan_walk.specs.Successor.{next_of, skip_of}

-- ---- CCWs

-- the flag for a program-controlled interruption is on: the channel asks for an interruption when
-- it takes up the CCW (System/360 Principles of Operation, A22-6821)
unfoldable pub asks_interruption : Fields → Bool
asks_interruption c = is_on c.flags 0x08

-- it asks for one with the CCW c; in a transfer in channel the flags mean nothing
abbrev pub interrupts : Place → Fields → Bool
interrupts p c = not (is_transfer c) && asks_interruption c

-- the kind moves no data
abbrev pub moves_nothing : Kind → Bool
moves_nothing Idle = true
moves_nothing Inward = false
moves_nothing Outward = false
moves_nothing Search = false

-- a command that was looked up moves no data; a code of no command is none
abbrev pub is_idle : Option CommandEntry → Bool
is_idle None = false
is_idle (Some k) = moves_nothing k.kind

-- No Operation or Recalibrate begins, the two commands that move no data, and chain data is on: it
-- counts, whatever chain command is, and by it such an operation never goes on
abbrev pub ends_there : Place → Fields → Bool
ends_there p c = is_fresh p.entered && is_idle (lookup c.command) && chains_data c

-- a place with this CCW has no successor
abbrev pub HasNoSuccessor : Place → Fields → Type 0
HasNoSuccessor p c =
    (next_of p c (kind_of p.entered c) ≡ None) × (skip_of p c (kind_of p.entered c) ≡ None)

-- the program ends there: such a place has no successor; and each place without a successor at
-- which a command begins with chain data on is one
abbrev pub NothingFollows : Type 0
NothingFollows = (p : Place) (c : Fields) →
    (ends_there p c ≡ true → HasNoSuccessor p c)
    × (is_fresh p.entered ≡ true → is_known c.command ≡ true → is_transfer c ≡ false
    → chains_data c ≡ true → HasNoSuccessor p c → ends_there p c ≡ true)

-- a is the address of a reachable CCW that passes the test
pub record IsAddressOf (test : Place → Fields → Bool) (j : Job) (a : ℕ) : Type 0 where
  pub place : Place
  pub reached : IsReachable j place
  pub passes : PassesTest test j place
  pub address : place.address ≡ a

-- the list has the addresses of these CCWs, each once, rising
pub record AreAddressesOf (test : Place → Fields → Bool) (j : Job) (addresses : List ℕ)
    : Type 0 where
  pub rising : IsStrictlyIncreasing addresses
  pub exactly : (a : ℕ) → Has addresses a ↔ IsAddressOf test j a

-- ---- place by place

-- a CCW was seen that passes the test
abbrev pub IsSeenWith : (Place → Fields → Bool) → Seen → Type 0
IsSeenWith test l = (c : Fields) × (l.ccw ≡ Some c) × (test l.place c ≡ true)

-- the new addresses are the old ones, a where the test is passed, and no others
abbrev pub AddsAddress : Bool → ℕ → List ℕ → List ℕ → Type 0
AddsAddress counts a old new = (b : ℕ) → Has new b ↔ (Has old b ⊎ (IsTrue counts × (a ≡ b)))
