-- The groups of command codes (System/360 Principles of Operation, A22-6821, on the channel command
-- word).
use Rattle.std.specs.Prelude.{ℕ, ◌==◌, ◌%◌, List, codes, if◌then◌else◌}
use Rattle.ccw_core.specs.declared.group.Group.{Group}
use Rattle.ccw_core.specs.declared.group.Group.TheVariants.{Invalid, Sense, Transfer, ReadBackward}
use Rattle.ccw_core.specs.declared.group.Group.TheVariants.{Write, Read, Control}

-- the group of a command code: by its low four bits, and where these do not decide by its low two
abbrev pub group_of : ℕ → Group
group_of code =
    if code % 16 == 0 then Invalid
    else if code % 16 == 4 then Sense
    else if code % 16 == 8 then Transfer
    else if code % 16 == 12 then ReadBackward
    else if code % 4 == 1 then Write
    else if code % 4 == 2 then Read
    else Control

-- the word for a group in the text of a CCW
abbrev pub group_word : Group → List ℕ
group_word Invalid = codes "invalid"
group_word Sense = codes "sense"
group_word Transfer = codes "transfer"
group_word ReadBackward = codes "read-backward"
group_word Write = codes "write"
group_word Read = codes "read"
group_word Control = codes "control"
