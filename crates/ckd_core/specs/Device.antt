-- How many heads and cylinders a device has
-- (component descriptions of the 2841 with the 2311, and of the 2314).
use Rattle.std.specs.Prelude.{ℕ}
use Rattle.ckd_core.specs.declared.device.Device.{Device}
use Rattle.ckd_core.specs.declared.device.Device.TheVariants.{D2311, D2314}
use Rattle.ckd_core.specs.declared.device.TheConstants.{CYLINDERS}

-- heads 0 to 9, or 0 to 19
abbrev pub heads_of : Device → ℕ
heads_of D2311 = 10
heads_of D2314 = 20

-- as many on both
abbrev pub cylinders_of : Device → ℕ
cylinders_of D2311 = CYLINDERS
cylinders_of D2314 = CYLINDERS
