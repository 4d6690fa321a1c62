-- How an input that has a name is named: in a verdict's line, over a listing and in a line on
-- standard error.
use Rattle.std.specs.Prelude.{◌++◌, ℕ, Bool, true, false, List, [], Option, Some, None}
use Rattle.std.specs.Prelude.{codes, option_map}
use Rattle.std.specs.Borrow.{Bor}
use Rattle.chan_run.specs.declared.name.Naming.{Naming}

-- the name that an input may have, in the code and in what is said of it
abbrev pub name_in : Option (Bor (List ℕ)) → Option (List ℕ)
name_in = option_map (λ name. name.now)

-- the name, a colon and a space, where the input has a name and it is wanted; else nothing
abbrev pub name_before : Option (List ℕ) → Bool → List ℕ
name_before None wanted = []
name_before (Some name) true = name ++ codes ": "
name_before (Some name) false = []

-- an input without a name
abbrev pub unnamed : Naming
unnamed = record { name = None; is_among = false }

-- the name of an input
abbrev pub name_of : Naming → Option (List ℕ)
name_of n = name_in n.name

-- the line with a name and a colon, where it is wanted; else nothing
abbrev pub heading_with : Option (List ℕ) → Bool → List ℕ
heading_with (Some name) true = name ++ codes ":\n"
heading_with name wanted = []

-- the line over the listing or the needs of one of several inputs
abbrev pub heading_of : Naming → List ℕ
heading_of n = heading_with (name_of n) n.is_among
