-- What `show` writes of a text of sixteen hexadecimal digits.
use Rattle.std.specs.Prelude.{ℕ, ◌≡◌, ◌≢◌, ◌==◌, Bool, true, false, not, List, [], ◌∷◌, ◌++◌}
use Rattle.std.specs.Prelude.{◌⊎◌, ◌||◌, if◌then◌else◌, codes, drop, nat_eq, length, IfSome, IsSome}
use Rattle.std.specs.Prelude.{Result, Ok, Err, Some}
use Rattle.std.specs.List.{AllPass, filter, starts_with}
use Rattle.chan_deck.specs.Listing.{ccw_line}
use Rattle.chan_run.specs.Response.{IsBareResponse, advice_in}
use Rattle.chan_run.specs.declared.response.Response.{Response}
use Rattle.chan_run.specs.declared.failure.Failure.TheVariants as failures
use Rattle.chan_run.specs.declared.outcome.Outcome.TheVariants.{Done, Failed}
use Rattle.hex.specs.Hex.{decode_sized, is_hex_digit}
use Rattle.hex.specs.declared.error.FromHexError.{FromHexError}
use Rattle.ccw_core.specs.Ccw.{ccw, ccw_text}

-- sixteen hexadecimal digits, in either case
abbrev pub SpellsCcw : List ℕ → Type 0
SpellsCcw text = (length text ≡ 16) × AllPass is_hex_digit text

-- the text of the word in these eight bytes, with the name of its command or without, and an end of
-- line
abbrev pub line_of_bytes : Bool → List ℕ → List ℕ
line_of_bytes false bytes = ccw_text (ccw bytes 0) ++ 10 ∷ []
line_of_bytes true bytes = ccw_line (ccw bytes 0)

abbrev pub line_of_decoded : Bool → Result (List ℕ) FromHexError → List ℕ
line_of_decoded is_named (Ok bytes) = line_of_bytes is_named bytes
line_of_decoded is_named (Err e) = []

-- the line that shows the word that the text spells; another text has none
abbrev pub shown_line : Bool → List ℕ → List ℕ
shown_line is_named text = line_of_decoded is_named (decode_sized text 8)

-- a text without its blanks
abbrev pub without_blanks : List ℕ → List ℕ
without_blanks text = filter (λ c. not (c == 32)) text

-- the digits of a hexadecimal number: what stands after `0x` or `0X`, or else its whole text
unfoldable pub digits_in : List ℕ → List ℕ
digits_in text =
    if starts_with nat_eq text (codes "0x") || starts_with nat_eq text (codes "0X")
    then drop 2 text else text

-- the digits of a text as a person writes it: without blanks, and without `0x` before them
abbrev pub plain_digits : List ℕ → List ℕ
plain_digits text = digits_in (without_blanks text)

-- the answer to digits that spell a CCW: the line that shows it with the name of its command
pub record IsCcwLine (digits : List ℕ) (r : Response) : Type 0 where
  pub spelled : SpellsCcw digits
  pub outcome : r.outcome ≡ Done
  pub output : r.output.items ≡ shown_line true digits
  pub advice : advice_in r.advice ≡ Some []
  pub note : r.note.now ≡ []

-- the answer to digits that don't: why
pub record IsCcwFault (digits : List ℕ) (r : Response) : Type 0 where
  pub unspelled : ¬ SpellsCcw digits
  pub outcome : r.outcome ≡ Failed failures.NotCcw
  pub output : r.output.items ≡ []
  pub advice : IfSome (advice_in r.advice) (λ why. why ≢ [])
  pub said : IsSome (advice_in r.advice)
  pub note : r.note.now ≡ []

abbrev pub IsCcwShown : List ℕ → Response → Type 0
IsCcwShown digits r = IsCcwLine digits r ⊎ IsCcwFault digits r

-- the answer to a line that shows a CCW, with the name of its command or without
abbrev pub IsCcwReread : List ℕ → Response → Type 0
IsCcwReread text r =
    (digits : List ℕ) × (is_named : Bool) × (text ++ 10 ∷ [] ≡ shown_line is_named digits)
    × IsCcwLine digits r

-- the answer to a text as a person writes it, or as `show` does
abbrev pub IsCcwResponse : List ℕ → Response → Type 0
IsCcwResponse text r =
    IsBareResponse (Failed failures.OutOfMemory) [] r
    ⊎ (IsCcwShown (plain_digits text) r ⊎ IsCcwReread text r)
