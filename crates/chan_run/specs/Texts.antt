-- What a writer got of some bytes, or of some texts one after another.
use Rattle.std.specs.Prelude.{◌≡◌, ℕ, Bool, false, List, Option}
use Rattle.std.specs.Borrow.{Bor}
use Rattle.std.specs.List.{flat_map}
use Rattle.std.specs.Io.KnownBytes.{Appends}
use Rattle.ccw_core.specs.Written.{AppendsPrefix}

-- a writer got all of these bytes or, if a write failed, a prefix of them
abbrev pub WriterGot : List ℕ → Option (List ℕ) → Option (List ℕ) → Bool → Type 0
WriterGot bytes old new failed =
    (failed ≡ false → Appends old new bytes) × AppendsPrefix old new bytes

-- some texts, one after another
abbrev pub concatenated : List (Bor (List ℕ)) → List ℕ
concatenated = flat_map (λ text. text.now)
