-- How strict a mask is: two levels, each from 0, lax, to 3, strict.
use Rattle.std.specs.Prelude.{ℕ, ◌+◌, ◌*◌, ◌==◌, bit_and, if◌then◌else◌}
use Rattle.ckd_core.specs.declared.command.MaskClass.{MaskClass}
use Rattle.ckd_core.specs.declared.command.MaskClass.TheVariants.{Seek, SeekCylinder, SeekHead}
use Rattle.ckd_core.specs.declared.command.MaskClass.TheVariants.{Recalibrate, WriteHome}
use Rattle.ckd_core.specs.declared.command.MaskClass.TheVariants.{WriteFormat, WriteUpdate}

-- that of the bits that decide over writes
abbrev pub level_of_writes : ℕ → ℕ
level_of_writes bits =
    if bits == 0x40 then 3 else if bits == 0x80 then 2 else if bits == 0xC0 then 0 else 1

-- that of the bits that decide over seeks
abbrev pub level_of_seeks : ℕ → ℕ
level_of_seeks bits =
    if bits == 0x18 then 3 else if bits == 0x10 then 2 else if bits == 0x00 then 0 else 1

-- a mask's two
abbrev pub write_level : ℕ → ℕ
write_level mask = level_of_writes (bit_and mask 0xC0)

abbrev pub seek_level : ℕ → ℕ
seek_level mask = level_of_seeks (bit_and mask 0x18)

-- the highest levels at which a class isn't inhibited
abbrev pub writes_up_to : MaskClass → ℕ
writes_up_to WriteHome = 0
writes_up_to WriteFormat = 1
writes_up_to WriteUpdate = 2
writes_up_to _ = 3

abbrev pub seeks_up_to : MaskClass → ℕ
seeks_up_to Seek = 0
seeks_up_to Recalibrate = 0
seeks_up_to SeekCylinder = 1
seeks_up_to SeekHead = 2
seeks_up_to _ = 3

-- the mask of two levels
abbrev pub mask_of : ℕ → ℕ → ℕ
mask_of writes seeks =
    (if writes == 0 then 0xC0 else if writes == 1 then 0x00 else if writes == 2 then 0x80 else 0x40)
    + 8 * seeks
