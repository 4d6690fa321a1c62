-- The prefix through which a supervisor starts a program: it moves the arm into the extents, sets
-- the job's mask, and goes on to the program in the same chain. A mask lasts only until its chain
-- ends, and the arm is where the last program left it.
use Rattle.std.specs.Prelude.{◌≡◌, ℕ, ◌+◌, ◌<◌, ◌≤◌, ◌==◌, true, List, [], ◌∷◌, ◌++◌, length}
use Rattle.std.specs.Prelude.{if◌then◌else◌}
use Rattle.byteorder.specs.Endian.{big_bytes}
use Rattle.ccw_core.specs.Ccw.{Fields, bytes_of}
use Rattle.ccw_core.specs.Storage.{is_aligned}
use Rattle.chan_walk.specs.declared.job.Job.{Job}
use Rattle.chan_walk.specs.Alarm.{first_cylinder}
use Rattle.chan_walk.specs.Job.{extents_of, storage_of}

-- a Seek whose argument is at an address: the flags are chain command alone, so that the chain ends
-- unless the device takes all six bytes
abbrev pub seek_from : ℕ → Fields
seek_from a = record { command = 7; address = a; flags = 64; spare = 0; count = 6 }

-- a Set File Mask, likewise
abbrev pub mask_from : ℕ → Fields
mask_from a = record { command = 31; address = a; flags = 64; spare = 0; count = 1 }

abbrev pub transfer_to : ℕ → Fields
transfer_to a = record { command = 8; address = a; flags = 0; spare = 0; count = 0 }

-- the last eight bytes of a prefix: bin 0, the cylinder and head 0, in two bytes each, then the
-- mask and a byte that nothing takes
abbrev pub taken_by_prefix : ℕ → ℕ → List ℕ
taken_by_prefix cylinder mask =
    (0 ∷ 0 ∷ []) ++ big_bytes 2 cylinder ++ (0 ∷ 0 ∷ mask ∷ 0 ∷ [])

-- the CCWs that move the arm and set the mask, in the prefix at address a: under mask 00, with
-- which each chain begins, they set none, so that the program may set its own
abbrev pub setting_ccws : ℕ → Job → List ℕ
setting_ccws a j =
    if j.mask == 0
    then bytes_of (seek_from (a + 16))
    else bytes_of (seek_from (a + 24)) ++ bytes_of (mask_from (a + 30))

-- the job's prefix that stands at address a
abbrev pub prefix_at : ℕ → Job → List ℕ
prefix_at a j =
    setting_ccws a j ++ bytes_of (transfer_to j.start)
    ++ taken_by_prefix (first_cylinder (extents_of j)) j.mask

-- it can stand there: the address is a multiple of 8, and the prefix and the program's start lie in
-- storage
abbrev pub CanStandAt : ℕ → Job → Type 0
CanStandAt a j =
    (is_aligned a ≡ true) × (a + length (prefix_at a j) ≤ length (storage_of j))
    × (j.start < length (storage_of j))
