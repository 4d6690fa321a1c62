-- The words that the lines of refused decks give as causes.
use Rattle.std.specs.Prelude.{ℕ, List, codes}
use Rattle.chan_deck.specs.declared.cause.Cause.{Cause}
use Rattle.chan_deck.specs.declared.cause.Cause.TheVariants as causes

-- the word of a cause, as a refused deck's line gives it
abbrev pub word_of_cause : Cause → List ℕ
word_of_cause causes.Ended = codes "ended"
word_of_cause causes.Header = codes "header"
word_of_cause causes.Form = codes "form"
word_of_cause causes.Mask = codes "mask"
word_of_cause causes.ExtentBackwards = codes "extent-backwards"
word_of_cause causes.ExtentPastDevice = codes "extent-past-device"
word_of_cause causes.Size = codes "size"
word_of_cause causes.PutAddress = codes "put-address"
word_of_cause causes.PutZero = codes "put-zero"
word_of_cause causes.After = codes "after"
word_of_cause causes.Limit = codes "limit"
