-- What a reader gave, where it tells what it has left.
use Rattle.std.specs.Prelude.{ℕ, ◌<◌, ◌≤◌, List, Option, length}
use Rattle.std.specs.Io.KnownBytes.{Consumes, IsAtEnd}
use Rattle.chan_run.specs.declared.failure.Failure.{Failure}
use Rattle.chan_run.specs.declared.failure.Failure.TheVariants as failures

-- these bytes and nothing more
pub record GaveAll (old new : Option (List ℕ)) (text : List ℕ) : Type 0 where
  pub taken : Consumes old new text
  pub ended : IsAtEnd new

-- more bytes than so many
pub record GaveTooMuch (limit : ℕ) (old new : Option (List ℕ)) : Type 0 where
  pub text : List ℕ
  pub taken : Consumes old new text
  pub many : limit < length text

-- no more bytes than so many, and then it failed
pub record GaveOut (limit : ℕ) (old new : Option (List ℕ)) : Type 0 where
  pub text : List ℕ
  pub taken : Consumes old new text
  pub short : length text ≤ limit

-- the most bytes that a deck's text may have
abbrev pub text_limit : ℕ
text_limit = 67108864

-- the whole input is this text, which isn't too long
pub record IsInput (old new : Option (List ℕ)) (t : List ℕ) : Type 0 where
  pub gave : GaveAll old new t
  pub short : length t ≤ text_limit

-- the input wasn't read to its end, for this reason
abbrev pub IsReadFault : Option (List ℕ) → Option (List ℕ) → Failure → Type 0
IsReadFault old new failures.ReadFailed = GaveOut text_limit old new
IsReadFault old new failures.DeckTooLong = GaveTooMuch text_limit old new
IsReadFault old new failures.OutOfMemory = Unit {0}
IsReadFault old new failure = ⊥
