-- The channel and the device while a program runs: storage changes, and what the device gives and
-- where it ends is free (System/360 Principles of Operation, A22-6821; component descriptions of
-- the 2841 with the 2311, and of the 2314).
use Rattle.std.specs.Prelude.{◌≡◌, ℕ, ◌+◌, ◌-◌, ◌<◌, ◌≤◌, Bool, true, false, if◌then◌else◌, min}
use Rattle.std.specs.Prelude.{List, [], ◌∷◌, ◌++◌, map, length, Option, None, Some, ◌⊎◌}
use Rattle.std.specs.List.{AllByRecursion, range_with_len}
use Rattle.ccw_core.specs.Ccw.{byte, Fields, ccw, is_transfer, skips, chains_data, chains_command}
use Rattle.ckd_core.specs.declared.command.Kind.{Kind}
use Rattle.ckd_core.specs.declared.command.Kind.TheVariants.{Idle, Inward, Outward, Search}
use Rattle.ckd_core.specs.Track.{cylinder_of}
use Rattle.ckd_core.specs.Mask.{is_mask}
use Rattle.chan_walk.specs.declared.place.Entry.{Entry}
use Rattle.chan_walk.specs.declared.place.Entry.TheVariants.{Fresh}
use Rattle.chan_walk.specs.declared.place.Place.{Place}
use Rattle.chan_walk.specs.declared.reason.Reason.{Reason}
use Rattle.chan_walk.specs.ProgramCheck.{program_check}
use Rattle.chan_walk.specs.Fault.{kind_of, is_known, begins_seek, begins_recalibrate}
use Rattle.chan_walk.specs.Fault.{begins_set_mask}
use Rattle.chan_walk.specs.Place.{is_fresh, straight_to, transferred_to}
use Rattle.chan_walk.specs.Successor.{chained, gives_modifier}

-- the bytes that a seek under way has taken so far; none, where no seek is under way
abbrev pub Gathered : Type 0
Gathered = Option (List ℕ)

-- the program is at a place, has ended, or was stopped by a program check
pub data Stage : Type 0 where
  At : Place → Gathered → Stage
  Ended : Stage
  Checked : Reason → Stage

-- what is seen of a step: a command begins; bytes are stored from an address on; a range is
-- fetched; bytes at these addresses are added to an argument; the device seeks with an argument, or
-- with none whole; Set File Mask takes the byte at an address
pub data Event : Type 0 where
  Command : (code : ℕ) → Event
  Store : (address : ℕ) (bytes : List ℕ) → Event
  Fetch : (address count : ℕ) → Event
  Gather : (addresses : List ℕ) → Event
  Seek : (argument : Option (List ℕ)) → Event
  SetMask : (address byte : ℕ) → Event

-- t is storage s with these bytes stored from a on
pub record IsStored (s : List ℕ) (a : ℕ) (bytes t : List ℕ) : Type 0 where
  pub same_length : length t ≡ length s
  pub inside : (i : ℕ) → i < length bytes → byte t (a + i) ≡ byte bytes i
  pub others : (b : ℕ) → (b < a) ⊎ (a + length bytes ≤ b) → byte t b ≡ byte s b

-- what m bytes of data do to storage, by the kind of the operation: any bytes may be stored, and
-- the channel may fetch ahead
pub data MovesData (c : Fields) (m : ℕ) (s : List ℕ) : Kind → List Event → List ℕ → Type 0 where
  idle : m ≡ 0 → MovesData c m s Idle [] s
  skipped : skips c ≡ true → MovesData c m s Inward [] s
  stored : {bytes t : List ℕ} → skips c ≡ false → length bytes ≡ m
      → AllByRecursion (λ b. b < 256) bytes → IsStored s c.address bytes t
      → MovesData c m s Inward (Store c.address bytes ∷ []) t
  written : MovesData c m s Outward (Fetch c.address c.count ∷ []) s
  searched : MovesData c m s Search (Fetch c.address c.count ∷ []) s

-- the addresses of those of the m bytes that a seek takes that has x, up to six in all
abbrev pub taken : Fields → ℕ → List ℕ → List ℕ
taken c m x = range_with_len c.address (min m (6 - length x))

-- what the seek then has
abbrev pub with_taken : List ℕ → Fields → ℕ → List ℕ → List ℕ
with_taken s c m x = x ++ map (byte s) (taken c m x)

-- what m bytes of data do to a seek under way, and to the arm at cylinder y: with the sixth byte
-- the device seeks, and the arm stays or goes there
pub data Seeks (c : Fields) (m : ℕ) (s : List ℕ) (y : ℕ) : Gathered → List Event → ℕ → Gathered
    → Type 0 where
  none : Seeks c m s y None [] y None
  part : {x : List ℕ} → length (with_taken s c m x) < 6
      → Seeks c m s y (Some x) (Gather (taken c m x) ∷ []) y (Some (with_taken s c m x))
  stays : {x : List ℕ} → length (with_taken s c m x) ≡ 6
      → Seeks c m s y (Some x) (Gather (taken c m x) ∷ Seek (Some (with_taken s c m x)) ∷ []) y None
  goes : {x : List ℕ} → length (with_taken s c m x) ≡ 6
      → Seeks c m s y (Some x) (Gather (taken c m x) ∷ Seek (Some (with_taken s c m x)) ∷ [])
      (cylinder_of (with_taken s c m x)) None

-- the seek under way at a place with the CCW c, that was come to with g
abbrev pub under_way : Place → Fields → Gathered → Gathered
under_way p c g = if begins_seek p c then Some [] else g

-- the argument of Recalibrate
abbrev pub home : List ℕ
home = 0 ∷ 0 ∷ 0 ∷ 0 ∷ 0 ∷ 0 ∷ []

-- what Recalibrate does: the arm stays or goes to cylinder 0
pub data Recalibration (y : ℕ) : Bool → List Event → ℕ → Type 0 where
  no_home : Recalibration y false [] y
  home_stays : Recalibration y true (Seek (Some home) ∷ []) y
  home_goes : Recalibration y true (Seek (Some home) ∷ []) 0

-- what the first of m bytes does to the mask f in force, where Set File Mask takes it: the mask
-- stays, or becomes the byte if that is a mask
pub data SetsMask (c : Fields) (m : ℕ) (s : List ℕ) (f : ℕ) : Bool → List Event → ℕ → Type 0 where
  no_mask : SetsMask c m s f false [] f
  no_byte : m ≡ 0 → SetsMask c m s f true [] f
  mask_stays : 0 < m → SetsMask c m s f true (SetMask c.address (byte s c.address) ∷ []) f
  mask_set : 0 < m → is_mask (byte s c.address) ≡ true →
      SetsMask c m s f true (SetMask c.address (byte s c.address) ∷ []) (byte s c.address)

-- how the program goes on from p after m bytes, with g of a seek: the device may end it at any
-- time, and else chaining decides
pub data Continues (p : Place) (c : Fields) (k : Kind) (m : ℕ) : Gathered → List Event → Stage
    → Type 0 where
  ends : {g : Gathered} → Continues p c k m g [] Ended
  on_data : {g : Gathered} {e : Entry} → chains_data c ≡ true → chained k ≡ Some e → m ≡ c.count
      → Continues p c k m g [] (At (straight_to (p.address + 8) e) g)
  on_command : chains_data c ≡ false → chains_command c ≡ true
      → Continues p c k m None [] (At (straight_to (p.address + 8) Fresh) None)
  on_skip : chains_data c ≡ false → chains_command c ≡ true → gives_modifier k ≡ true
      → Continues p c k m None [] (At (straight_to (p.address + 16) Fresh) None)
  on_short : {x : List ℕ} → chains_data c ≡ false → m ≡ c.count
      → Continues p c k m (Some x) (Seek None ∷ []) Ended

-- the event that a command begins, where an operation does
abbrev pub command_event : Place → Fields → List Event
command_event p c = if is_fresh p.entered then Command c.command ∷ [] else []

-- one step at the place p, with storage s, the arm at cylinder y and the mask f in force: a program
-- check stops the program; a transfer is taken; a command that isn't in the table ends the program;
-- or the CCW is carried out, and then m bytes, at most its count, are moved, a seek under way takes
-- what it wants of them, Recalibrate seeks, Set File Mask takes the first, and the program goes on
pub data Step (s : List ℕ) (y f : ℕ) (p : Place) (g : Gathered)
    : List Event → List ℕ → ℕ → ℕ → Stage → Type 0 where
  checked : {r : Reason} → program_check s p ≡ Some r → Step s y f p g [] s y f (Checked r)
  transferred :
      program_check s p ≡ None → is_transfer (ccw s p.address) ≡ true →
      Step s y f p g [] s y f (At (transferred_to (ccw s p.address).address p.entered) g)
  unknown :
      program_check s p ≡ None → is_transfer (ccw s p.address) ≡ false →
      is_fresh p.entered ≡ true → is_known (ccw s p.address).command ≡ false →
      Step s y f p g (Command (ccw s p.address).command ∷ []) s y f Ended
  carried :
      {t : List ℕ} {y' y'' f' : ℕ} {g' : Gathered} {moved sought homed set went : List Event}
      {stage : Stage} {m : ℕ} →
      program_check s p ≡ None → is_transfer (ccw s p.address) ≡ false →
      (is_fresh p.entered ≡ true → is_known (ccw s p.address).command ≡ true) →
      m ≤ (ccw s p.address).count →
      MovesData (ccw s p.address) m s (kind_of p.entered (ccw s p.address)) moved t →
      Seeks (ccw s p.address) m s y (under_way p (ccw s p.address) g) sought y' g' →
      Recalibration y' (begins_recalibrate p (ccw s p.address)) homed y'' →
      SetsMask (ccw s p.address) m s f (begins_set_mask p (ccw s p.address)) set f' →
      Continues p (ccw s p.address) (kind_of p.entered (ccw s p.address)) m g' went stage →
      Step s y f p g
      (command_event p (ccw s p.address) ++ moved ++ sought ++ homed ++ set ++ went) t y'' f' stage

-- one step from a stage; a program that has ended or was checked makes none
abbrev pub StepFrom : List ℕ → ℕ → ℕ → Stage → List Event → List ℕ → ℕ → ℕ → Stage → Type 0
StepFrom s y f (At p g) es t y' f' stage = Step s y f p g es t y' f' stage
StepFrom s y f Ended es t y' f' stage = ⊥
StepFrom s y f (Checked r) es t y' f' stage = ⊥
