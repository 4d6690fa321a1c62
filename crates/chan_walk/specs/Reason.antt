-- The reasons why a program may not run, by number and by word.
use Rattle.std.specs.Prelude.{ℕ, nat_le, Bool, List, codes}
use Rattle.chan_walk.specs.declared.reason.Reason.{Reason}
use Rattle.chan_walk.specs.declared.reason.Reason.TheVariants.{Misaligned, OutsideStorage}
use Rattle.chan_walk.specs.declared.reason.Reason.TheVariants.{TransferNotAllowed, InvalidCode}
use Rattle.chan_walk.specs.declared.reason.Reason.TheVariants.{BadFormat, ZeroCount, DataOutside}
use Rattle.chan_walk.specs.declared.reason.Reason.TheVariants.{NotInTable, Inhibited, StoreNotLent}
use Rattle.chan_walk.specs.declared.reason.Reason.TheVariants.{FetchNotLent, ShortSeek, SeekOutside}
use Rattle.chan_walk.specs.declared.reason.Reason.TheVariants.{ChangesCcw, ChangesArgument}
use Rattle.chan_walk.specs.declared.reason.Reason.TheVariants.{WeakensMask}

-- the order by which the least counts, in which own faults are tried too
abbrev pub number_of : Reason → ℕ
number_of Misaligned = 1
number_of OutsideStorage = 2
number_of TransferNotAllowed = 3
number_of InvalidCode = 4
number_of BadFormat = 5
number_of ZeroCount = 6
number_of DataOutside = 7
number_of NotInTable = 8
number_of Inhibited = 9
number_of StoreNotLent = 10
number_of FetchNotLent = 11
number_of ShortSeek = 12
number_of SeekOutside = 13
number_of ChangesCcw = 14
number_of ChangesArgument = 15
number_of WeakensMask = 16

-- no command of the table stands there that the channel can carry out: one of the first eight
-- reasons. So it is where a program is read in only while this one runs.
unfoldable pub is_no_command : Reason → Bool
is_no_command r = nat_le (number_of r) 8

-- the word for a reason in a verdict, as ASCII text
abbrev pub word_of : Reason → List ℕ
word_of Misaligned = codes "misaligned"
word_of OutsideStorage = codes "outside-storage"
word_of TransferNotAllowed = codes "transfer-not-allowed"
word_of InvalidCode = codes "invalid-code"
word_of BadFormat = codes "bad-format"
word_of ZeroCount = codes "zero-count"
word_of DataOutside = codes "data-outside"
word_of NotInTable = codes "not-in-table"
word_of Inhibited = codes "inhibited"
word_of StoreNotLent = codes "store-not-lent"
word_of FetchNotLent = codes "fetch-not-lent"
word_of ShortSeek = codes "short-seek"
word_of SeekOutside = codes "seek-outside"
word_of ChangesCcw = codes "changes-ccw"
word_of ChangesArgument = codes "changes-argument"
word_of WeakensMask = codes "weakens-mask"
