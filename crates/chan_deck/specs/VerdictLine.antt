-- The lines of a verdict and of a program that was found.
use Rattle.std.specs.Prelude.{ℕ, ◌^◌, nat_lt, Option, Some, None, List, [], ◌∷◌, ◌++◌, codes}
use Rattle.std.specs.Prelude.{if◌then◌else◌}
use Rattle.std.specs.Int.{w32, to_be_bytes}
use Rattle.hex.specs.Hex.{encode_upper}
use Rattle.chan_walk.specs.Reason.{word_of}
use Rattle.chan_walk.specs.declared.verdict.Verdict.{Verdict}
use Rattle.chan_walk.specs.declared.verdict.Verdict.TheVariants.{Yes, No}
use Rattle.chan_deck.specs.Item.{address_digits, size_digits}
use Rattle.ccw_core.specs.declared.ccw.TheConstants.{STORAGE_LIMIT}

-- an address in six hexadecimal digits, or as many as it needs
abbrev pub address_text : ℕ → List ℕ
address_text a =
    if nat_lt a STORAGE_LIMIT then address_digits a
    else if nat_lt a (2 ^ 28) then size_digits a
    else encode_upper (to_be_bytes w32 a)

-- `yes`, or `no`, the address and the reason's word
abbrev pub verdict_words : Verdict → List ℕ
verdict_words Yes = codes "yes"
verdict_words (No address reason) =
    codes "no " ++ address_text address ++ codes " " ++ word_of reason

-- the same with a line feed
abbrev pub verdict_line : Verdict → List ℕ
verdict_line v = verdict_words v ++ 10 ∷ []

-- the line of a program that starts at an address: the address, and the verdict, if there is one,
-- with what the program looks like
abbrev pub program_line : ℕ → Option Verdict → List ℕ → List ℕ
program_line a None shape = address_text a ++ codes " too many places\n"
program_line a (Some v) shape =
    address_text a ++ (codes " " ++ (verdict_words v ++ (shape ++ 10 ∷ [])))

-- the line of a program that starts at an address and isn't judged
abbrev pub unjudged_line : ℕ → List ℕ
unjudged_line a = address_text a ++ codes " not judged\n"
