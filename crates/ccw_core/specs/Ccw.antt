-- The channel command word: its fields, the eight bytes that hold them, what its flags ask for, and
-- its text (System/360 Principles of Operation, A22-6821, on the channel command word).
use Rattle.std.specs.Prelude.{ℕ, ◌+◌, ◌*◌, ◌%◌, ◌==◌, not, nat_lt, nat_le, Bool, bit_and, List, []}
use Rattle.std.specs.Prelude.{◌∷◌, ◌++◌, slice_index, codes, if◌then◌else◌}
use Rattle.byteorder.specs.Endian.{big_bytes}
use Rattle.hex.specs.Hex.{encode_upper}
use Rattle.ccw_core.specs.Group.{group_of, group_word}

-- the fields; byte 5 is spare, and the channel ignores it
pub record Fields : Type 0 where
  pub command : ℕ
  pub address : ℕ
  pub flags : ℕ
  pub spare : ℕ
  pub count : ℕ

-- the byte at an address of storage
abbrev pub byte : List ℕ → ℕ → ℕ
byte storage address = slice_index storage address

-- the CCW in the eight bytes from a on: command code, three bytes of data address, flags, a spare
-- byte, two bytes of count
unfoldable pub ccw : List ℕ → ℕ → Fields
ccw s a = record {
  command = byte s a;
  address = byte s (a + 1) * 65536 + byte s (a + 2) * 256 + byte s (a + 3);
  flags = byte s (a + 4);
  spare = byte s (a + 5);
  count = byte s (a + 6) * 256 + byte s (a + 7);
}

-- the eight bytes of the CCW, numbers with their highest byte first
abbrev pub bytes_of : Fields → List ℕ
bytes_of c = (c.command ∷ big_bytes 3 c.address) ++ (c.flags ∷ c.spare ∷ big_bytes 2 c.count)

-- the flag of this value is on
abbrev pub is_on : ℕ → ℕ → Bool
is_on flags flag = not (bit_and flags flag == 0)

-- chain data: the operation goes on with the next word
unfoldable pub chains_data : Fields → Bool
chains_data c = is_on c.flags 0x80

-- chain command: the next word begins an operation of its own
unfoldable pub chains_command : Fields → Bool
chains_command c = is_on c.flags 0x40

-- skip: nothing is stored
unfoldable pub skips : Fields → Bool
skips c = is_on c.flags 0x10

-- the three low flag bits, which have to be zero, are zero
unfoldable pub is_formed : Fields → Bool
is_formed c = bit_and c.flags 0x07 == 0

-- transfer in channel: the next word stands at the address field
unfoldable pub is_transfer : Fields → Bool
is_transfer c = c.command % 16 == 8

-- a command code that is a program check
unfoldable pub is_invalid : Fields → Bool
is_invalid c = c.command % 16 == 0

-- the count, which may not be zero, is not zero
unfoldable pub has_count : Fields → Bool
has_count c = nat_lt 0 c.count

-- the whole data range lies in n bytes of storage
unfoldable pub has_data_in : ℕ → Fields → Bool
has_data_in n c = nat_le (c.address + c.count) n

-- a flag's letter where it is on, and else a dash
abbrev pub letter_of : ℕ → ℕ → ℕ → ℕ
letter_of flags flag letter = if is_on flags flag then letter else 45

-- chain data D, chain command C, suppress length L, skip S, program-controlled interruption P, and
-- the value of the three low bits
abbrev pub flag_letters : ℕ → List ℕ
flag_letters f =
    letter_of f 0x80 68 ∷ letter_of f 0x40 67 ∷ letter_of f 0x20 76 ∷ letter_of f 0x10 83
    ∷ letter_of f 0x08 80 ∷ (48 + f % 8) ∷ []

-- `code address flags spare count group`
abbrev pub ccw_text : Fields → List ℕ
ccw_text c =
    encode_upper (c.command ∷ []) ++ codes " " ++ encode_upper (big_bytes 3 c.address) ++ codes " "
    ++ flag_letters c.flags
    ++ codes " " ++ encode_upper (c.spare ∷ []) ++ codes " " ++ encode_upper (big_bytes 2 c.count)
    ++ codes " " ++ group_word (group_of c.command)
