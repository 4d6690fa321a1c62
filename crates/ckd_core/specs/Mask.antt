-- Which commands a file mask inhibits
-- (component descriptions of the 2841 with the 2311, and of the 2314; the classes of Recalibrate
-- and Erase are this project's choice).
use Rattle.std.specs.Prelude.{ℕ, zero, suc, Bool, true, false, ◌≡◌, ◌↔◌, ◌+◌, ◌==◌, ◌&&◌, ◌||◌, not}
use Rattle.std.specs.Prelude.{bit_and, List, [], ◌∷◌, Option, None, if◌then◌else◌}
use Rattle.std.specs.List.{list_all}
use Rattle.ckd_core.specs.declared.command.MaskClass.{MaskClass}
use Rattle.ckd_core.specs.declared.command.MaskClass.TheVariants.{Plain, Seek, SeekCylinder}
use Rattle.ckd_core.specs.declared.command.MaskClass.TheVariants.{SeekHead, Recalibrate, WriteHome}
use Rattle.ckd_core.specs.declared.command.MaskClass.TheVariants.{WriteFormat, WriteUpdate, SetMask}
use Rattle.ckd_core.specs.Command.{CommandEntry, class_passes, lookup}

-- no bit but those of writes and seeks
abbrev pub is_mask : ℕ → Bool
is_mask byte = bit_and byte 0x27 == 0

-- the bits that decide over writes: 00 inhibits home, 40 all writes, 80 home and format, C0 none
abbrev pub inhibits_write : ℕ → MaskClass → Bool
inhibits_write bits WriteHome = not (bits == 0xC0)
inhibits_write bits WriteFormat = bits == 0x40 || bits == 0x80
inhibits_write bits WriteUpdate = bits == 0x40
inhibits_write bits Plain = false
inhibits_write bits Seek = false
inhibits_write bits SeekCylinder = false
inhibits_write bits SeekHead = false
inhibits_write bits Recalibrate = false
inhibits_write bits SetMask = false

-- the bits that decide over seeks: 00 inhibits none, 08 Seek and Recalibrate, 10 Seek Cylinder too,
-- 18 Seek Head too
abbrev pub inhibits_seek : ℕ → MaskClass → Bool
inhibits_seek bits Seek = not (bits == 0x00)
inhibits_seek bits Recalibrate = not (bits == 0x00)
inhibits_seek bits SeekCylinder = bits == 0x10 || bits == 0x18
inhibits_seek bits SeekHead = bits == 0x18
inhibits_seek bits Plain = false
inhibits_seek bits WriteHome = false
inhibits_seek bits WriteFormat = false
inhibits_seek bits WriteUpdate = false
inhibits_seek bits SetMask = false

-- the mask inhibits a class of commands
abbrev pub inhibits_class : ℕ → MaskClass → Bool
inhibits_class mask class =
    inhibits_write (bit_and mask 0xC0) class || inhibits_seek (bit_and mask 0x18) class

-- the mask inhibits the command of this code
unfoldable pub inhibits : ℕ → ℕ → Bool
inhibits mask code = class_passes (inhibits_class mask) (lookup code)

-- the classes of commands that some mask inhibits
abbrev pub inhibitable : List MaskClass
inhibitable =
    Seek ∷ SeekCylinder ∷ SeekHead ∷ Recalibrate ∷ WriteHome ∷ WriteFormat ∷ WriteUpdate ∷ []

-- where the mask inhibits the class, so does the byte
abbrev pub inhibits_too : ℕ → ℕ → MaskClass → Bool
inhibits_too byte mask class = not (inhibits_class mask class) || inhibits_class byte class

-- the byte is at least as strict as the mask: it is a mask, and inhibits each class that the mask
-- inhibits
unfoldable pub is_at_least : ℕ → ℕ → Bool
is_at_least byte mask = is_mask byte && list_all (inhibits_too byte mask) inhibitable

-- the mask inhibits the class, and the byte doesn't
abbrev pub permits_beyond : ℕ → ℕ → MaskClass → Bool
permits_beyond byte mask class = inhibits_class mask class && not (inhibits_class byte class)

-- the first command of which the class passes a test, of those with n codes in a row
abbrev pub first_command : (MaskClass → Bool) → ℕ → ℕ → Option CommandEntry
first_command test code zero = None
first_command test code (suc n) =
    if class_passes test (lookup code) then lookup code else first_command test (code + 1) n

-- the command with the least code that the mask inhibits and the byte doesn't
unfoldable pub least_permitted : ℕ → ℕ → Option CommandEntry
least_permitted byte mask = first_command (permits_beyond byte mask) 0 256

-- strictness, said of every class: a byte is at least as strict as a mask exactly where it is a
-- mask and inhibits what that one inhibits
abbrev pub StrictnessIsByClass : Type 0
StrictnessIsByClass =
    (byte mask : ℕ) → (is_at_least byte mask ≡ true)
    ↔ ((is_mask byte ≡ true) × ((class : MaskClass) → inhibits_class mask class ≡ true
    → inhibits_class byte class ≡ true))
