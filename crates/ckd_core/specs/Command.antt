-- The command table of the 2311 and 2314
-- (component descriptions of the 2841 with the 2311, and of the 2314; the mask classes of
-- Recalibrate and Erase are this project's choice).
use Rattle.std.specs.Prelude.{ℕ, Bool, true, false, ◌==◌, List, [], ◌∷◌, ◌++◌, codes, Option, Some}
use Rattle.std.specs.Prelude.{None, if◌then◌else◌}
use Rattle.ckd_core.specs.declared.command.Kind.{Kind}
use Rattle.ckd_core.specs.declared.command.Kind.TheVariants.{Idle, Inward, Outward, Search}
use Rattle.ckd_core.specs.declared.command.MaskClass.{MaskClass}
use Rattle.ckd_core.specs.declared.command.MaskClass.TheVariants.{Plain, Seek, SeekCylinder}
use Rattle.ckd_core.specs.declared.command.MaskClass.TheVariants.{SeekHead, Recalibrate, WriteHome}
use Rattle.ckd_core.specs.declared.command.MaskClass.TheVariants.{WriteFormat, WriteUpdate, SetMask}

-- an entry of the table; the name is ASCII text
pub record CommandEntry : Type 0 where
  pub code : ℕ
  pub name : List ℕ
  pub kind : Kind
  pub class : MaskClass

abbrev entry : ℕ → List ℕ → Kind → MaskClass → CommandEntry
entry code name kind class = record { code = code; name = name; kind = kind; class = class }

-- six control commands, and Sense
abbrev pub control_commands : List CommandEntry
control_commands =
    entry 0x03 (codes "no-operation") Idle Plain ∷
    entry 0x07 (codes "seek") Outward Seek ∷
    entry 0x0B (codes "seek-cylinder") Outward SeekCylinder ∷
    entry 0x1B (codes "seek-head") Outward SeekHead ∷
    entry 0x13 (codes "recalibrate") Idle Recalibrate ∷
    entry 0x1F (codes "set-file-mask") Outward SetMask ∷
    entry 0x04 (codes "sense") Inward Plain ∷
    []

-- seven searches, each also with the multi-track bit
abbrev pub search_commands : List CommandEntry
search_commands =
    entry 0x39 (codes "search-home-address-equal") Search Plain ∷
    entry 0xB9 (codes "search-home-address-equal-mt") Search Plain ∷
    entry 0x31 (codes "search-id-equal") Search Plain ∷
    entry 0xB1 (codes "search-id-equal-mt") Search Plain ∷
    entry 0x51 (codes "search-id-high") Search Plain ∷
    entry 0xD1 (codes "search-id-high-mt") Search Plain ∷
    entry 0x71 (codes "search-id-equal-or-high") Search Plain ∷
    entry 0xF1 (codes "search-id-equal-or-high-mt") Search Plain ∷
    entry 0x29 (codes "search-key-equal") Search Plain ∷
    entry 0xA9 (codes "search-key-equal-mt") Search Plain ∷
    entry 0x49 (codes "search-key-high") Search Plain ∷
    entry 0xC9 (codes "search-key-high-mt") Search Plain ∷
    entry 0x69 (codes "search-key-equal-or-high") Search Plain ∷
    entry 0xE9 (codes "search-key-equal-or-high-mt") Search Plain ∷
    []

-- six reads, each also with the multi-track bit
abbrev pub read_commands : List CommandEntry
read_commands =
    entry 0x1A (codes "read-home-address") Inward Plain ∷
    entry 0x9A (codes "read-home-address-mt") Inward Plain ∷
    entry 0x12 (codes "read-count") Inward Plain ∷
    entry 0x92 (codes "read-count-mt") Inward Plain ∷
    entry 0x16 (codes "read-record-zero") Inward Plain ∷
    entry 0x96 (codes "read-record-zero-mt") Inward Plain ∷
    entry 0x06 (codes "read-data") Inward Plain ∷
    entry 0x86 (codes "read-data-mt") Inward Plain ∷
    entry 0x0E (codes "read-key-data") Inward Plain ∷
    entry 0x8E (codes "read-key-data-mt") Inward Plain ∷
    entry 0x1E (codes "read-count-key-data") Inward Plain ∷
    entry 0x9E (codes "read-count-key-data-mt") Inward Plain ∷
    []

-- seven writes
abbrev pub write_commands : List CommandEntry
write_commands =
    entry 0x19 (codes "write-home-address") Outward WriteHome ∷
    entry 0x15 (codes "write-record-zero") Outward WriteHome ∷
    entry 0x1D (codes "write-count-key-data") Outward WriteFormat ∷
    entry 0x01 (codes "write-special-count-key-data") Outward WriteFormat ∷
    entry 0x11 (codes "erase") Outward WriteFormat ∷
    entry 0x05 (codes "write-data") Outward WriteUpdate ∷
    entry 0x0D (codes "write-key-data") Outward WriteUpdate ∷
    []

-- forty codes: six control, one sense, fourteen search, twelve read, seven write
unfoldable pub table : List CommandEntry
table = control_commands ++ search_commands ++ read_commands ++ write_commands

-- the entry with this code, where the list has one
abbrev pub find_code : ℕ → List CommandEntry → Option CommandEntry
find_code code [] = None
find_code code (e ∷ es) = if e.code == code then Some e else find_code code es

-- the table's entry for a command code
unfoldable pub lookup : ℕ → Option CommandEntry
lookup code = find_code code table

-- the three seeks
abbrev pub class_is_seek : MaskClass → Bool
class_is_seek Seek = true
class_is_seek SeekCylinder = true
class_is_seek SeekHead = true
class_is_seek Plain = false
class_is_seek Recalibrate = false
class_is_seek WriteHome = false
class_is_seek WriteFormat = false
class_is_seek WriteUpdate = false
class_is_seek SetMask = false

-- Recalibrate
abbrev pub class_recalibrates : MaskClass → Bool
class_recalibrates Recalibrate = true
class_recalibrates Plain = false
class_recalibrates Seek = false
class_recalibrates SeekCylinder = false
class_recalibrates SeekHead = false
class_recalibrates WriteHome = false
class_recalibrates WriteFormat = false
class_recalibrates WriteUpdate = false
class_recalibrates SetMask = false

-- Set File Mask
abbrev pub class_sets_mask : MaskClass → Bool
class_sets_mask SetMask = true
class_sets_mask Plain = false
class_sets_mask Seek = false
class_sets_mask SeekCylinder = false
class_sets_mask SeekHead = false
class_sets_mask Recalibrate = false
class_sets_mask WriteHome = false
class_sets_mask WriteFormat = false
class_sets_mask WriteUpdate = false

-- whether the class of a command that was looked up passes a test; a code of no command passes none
abbrev pub class_passes : (MaskClass → Bool) → Option CommandEntry → Bool
class_passes test None = false
class_passes test (Some e) = test e.class

-- the code is that of Seek, Seek Cylinder or Seek Head
unfoldable pub is_seek : ℕ → Bool
is_seek code = class_passes class_is_seek (lookup code)

-- the code is that of Recalibrate
unfoldable pub recalibrates : ℕ → Bool
recalibrates code = class_passes class_recalibrates (lookup code)

-- the code is that of Set File Mask
unfoldable pub sets_mask : ℕ → Bool
sets_mask code = class_passes class_sets_mask (lookup code)
