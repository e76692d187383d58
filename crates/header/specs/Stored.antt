-- Where the header's numbers stand. Offsets are hexadecimal, as in document 01. Definitions only.
use Rattle.std.specs.Prelude.{ℕ, ◌+◌, ◌*◌, Bool, cond, List, leb}
use Rattle.words.specs.Numbers.{byte, word, long}
use Rattle.header.specs.declared.stored.Stored.{Stored}

-- the numbers as they are stored. The record count at 06 is signed: below 2 ^ 31 as an unsigned number is at least 0
unfoldable pub stored_of : List ℕ → Stored
stored_of t =
    record {
      record_size = word t 0x00;
      header_size = word t 0x02;
      kind = byte t 0x04;
      units = byte t 0x05;
      records = long t 0x06;
      blocks = word t 0x0C;
      first = word t 0x0E;
      last = word t 0x10;
      fields = word t 0x21;
      key_fields = word t 0x23;
      sort = byte t 0x29;
      version = byte t 0x39;
      free = word t 0x4D;
    }

-- the block size in bytes: byte 05 counts units of 1,024
abbrev pub unit : ℕ
unit = 1024

abbrev pub block_size : Stored → ℕ
block_size s = s.units * unit

-- versions 03 and 04 have another layout than 05..0B
abbrev pub early : ℕ → Bool
early version = leb version 0x04

-- where the four encryption bytes stand
abbrev pub encryption_at : ℕ → ℕ
encryption_at version = cond (early version) 0x25 0x5C

-- where the field area begins
abbrev pub area_at : ℕ → ℕ
area_at version = cond (early version) 0x58 0x78

-- the table's name, which stands before the field names, takes so many bytes
abbrev pub table_name : ℕ
table_name = 79

-- the field area's pairs, a pointer to the table's name, pointers to the field names and the table's name come before
-- the first field name: 6n + 83 bytes from the start of the field area of n fields
abbrev pub names_at : Stored → ℕ
names_at s = area_at s.version + (6 * s.fields + (table_name + 4))
