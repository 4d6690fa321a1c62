-- What is read of the argument of an operation: of a seek along its data chain, CCW by CCW.
use Rattle.std.specs.Prelude.{◌≡◌, ℕ, ◌+◌, ◌<◌, ◌≤◌, ◌&&◌, true, false, List, [], ◌∷◌, map, take}
use Rattle.std.specs.Prelude.{length, slice_index, if◌then◌else◌, Option, None, Some}
use Rattle.ccw_core.specs.Ccw.{Fields, byte, ccw, is_transfer}
use Rattle.ccw_core.specs.Storage.{is_aligned, is_inside}
use Rattle.chan_walk.specs.declared.argument.GivenBytes.{GivenBytes}
use Rattle.chan_walk.specs.declared.argument.Operand.{Operand}
use Rattle.chan_walk.specs.declared.argument.Operand.TheVariants as operand
use Rattle.chan_walk.specs.declared.place.Place.{Place}
use Rattle.chan_walk.specs.Argument.{ChainGives, HasArgument, IsChain, argument, argument_addresses}
use Rattle.chan_walk.specs.Argument.{joined}
use Rattle.chan_walk.specs.Fault.{begins_seek, begins_set_mask}

-- where data chaining goes on from the CCW at a: by a transfer in channel, if one stands next, or
-- else to the next CCW
abbrev pub onward : List ℕ → ℕ → ℕ
onward s a =
    if is_aligned (a + 8) && is_inside (length s) (a + 8)
    && is_transfer (ccw s (a + 8)) then (ccw s (a + 8)).address else a + 8

-- the addresses of the bytes that a data chain gives, in order
abbrev pub addresses_given : GivenBytes → List ℕ
addresses_given g = take g.count g.addresses

-- and they themselves
abbrev pub bytes_given : GivenBytes → List ℕ
bytes_given g = take g.count g.bytes

-- the first n of these are the addresses of the first n bytes of the data chain that begins at a
abbrev pub IsFront : List ℕ → ℕ → ℕ → List ℕ → Type 0
IsFront s a n x = 0 < n → (l : List ℕ) × IsChain s n a l × (take n x ≡ take n (joined s l))

-- of six numbers, those from n on are zero
abbrev pub AreZeroFrom : ℕ → List ℕ → Type 0
AreZeroFrom n x = (i : ℕ) → n ≤ i → i < 6 → slice_index x i ≡ 0

-- they are the first bytes, six at most, of the data chain that begins at a; the places after them
-- hold zeros, both of the bytes and of the addresses
pub record AreGiven (s : List ℕ) (a : ℕ) (g : GivenBytes) : Type 0 where
  pub few : g.count ≤ 6
  pub front : IsFront s a g.count g.addresses
  pub bytes : bytes_given g ≡ map (byte s) (addresses_given g)
  pub no_bytes : AreZeroFrom g.count g.bytes
  pub no_addresses : AreZeroFrom g.count g.addresses

-- they are the whole argument of a seek at a
pub record AreArgument (s : List ℕ) (a : ℕ) (g : GivenBytes) : Type 0 where
  pub six : g.count ≡ 6
  pub chain : List ℕ
  pub is_chain : IsChain s 6 a chain
  pub addresses : g.addresses ≡ argument_addresses s chain
  pub bytes : g.bytes ≡ argument s chain

-- the data chain that begins at a gives n bytes of an argument, and the argument isn't whole
abbrev pub IsShort : List ℕ → ℕ → ℕ → Type 0
IsShort s a n = HasArgument s a None × ChainGives s a n

-- n of these are the addresses of an argument, or of what the data chain gives of it
pub record IsFrontOf (s : List ℕ) (a n : ℕ) (x : List ℕ) : Type 0 where
  pub few : n ≤ 6
  pub whole : n ≡ 6 → (l : List ℕ) × IsChain s 6 a l × (x ≡ argument_addresses s l)
  pub short : n < 6 → IsShort s a n × IsFront s a n x × AreZeroFrom n x

-- they are the argument of a seek at a, or what its data chain gives of it
pub record AreOfArgument (s : List ℕ) (a : ℕ) (g : GivenBytes) : Type 0 where
  pub few : g.count ≤ 6
  pub whole : g.count ≡ 6 → AreArgument s a g
  pub short : g.count < 6 → IsShort s a g.count × AreGiven s a g

-- this was read of the argument of the operation that begins at p with the CCW c: of a seek all of
-- its bytes, or those that its data chain gives; of Set File Mask its byte; else nothing
abbrev pub IsOperand : List ℕ → Place → Fields → Operand → Type 0
IsOperand s p c operand.Nothing = (begins_seek p c ≡ false) × (begins_set_mask p c ≡ false)
IsOperand s p c (operand.Short g) =
    (begins_seek p c ≡ true) × IsShort s p.address g.count × AreGiven s p.address g
IsOperand s p c (operand.Whole g) = (begins_seek p c ≡ true) × AreArgument s p.address g
IsOperand s p c (operand.Mask at b) =
    (begins_set_mask p c ≡ true) × (at ≡ c.address ∷ []) × (b ≡ byte s c.address)

-- the whole argument of a seek, if it was read
abbrev pub whole_of : Operand → Option GivenBytes
whole_of operand.Nothing = None
whole_of (operand.Short g) = None
whole_of (operand.Whole g) = Some g
whole_of (operand.Mask at b) = None

-- the byte that Set File Mask sets, and 0 if none was read
abbrev pub byte_of : Operand → ℕ
byte_of operand.Nothing = 0
byte_of (operand.Short g) = 0
byte_of (operand.Whole g) = 0
byte_of (operand.Mask at b) = b

-- the addresses of the bytes of a whole argument
abbrev pub operand_addresses : Operand → List ℕ
operand_addresses operand.Nothing = []
operand_addresses (operand.Short g) = []
operand_addresses (operand.Whole g) = g.addresses
operand_addresses (operand.Mask at b) = at
