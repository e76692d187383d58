-- The MB file (source document 001): the block that a cell's offset gives, and the blob that it states. Of the file's
-- own header, of modification numbers and of what else stands in a block nothing is judged. Definitions only.
use Rattle.std.specs.Prelude.{ℕ, ◌+◌, ◌-◌, ◌*◌, ◌%◌, Bool, cond, ◌&&◌, List, eqb, leb, ltb, length, Option, Some, None}
use Rattle.words.specs.Numbers.{byte, word, long}
use Rattle.blob.specs.declared.mb.Stated.{Stated}

-- ---- the offset

-- its low byte: FF names a block of its own, 00 to 3F an entry
abbrev pub low_byte : ℕ → ℕ
low_byte offset = offset % 256

-- with that byte taken as zero: where the block begins
abbrev pub base_of : ℕ → ℕ
base_of offset = offset - low_byte offset

-- the unit of blocks, in bytes
abbrev pub mb_unit : ℕ
mb_unit = 4096

-- a block begins at a multiple of the unit
abbrev pub on_unit : ℕ → Bool
on_unit base = eqb (base % mb_unit) 0

-- ---- a block and its head: its kind, then its length in units as a word

abbrev pub block_kind : List ℕ → ℕ → ℕ
block_kind mb base = byte mb base

abbrev pub units_at : List ℕ → ℕ → ℕ
units_at mb base = word mb (base + 1)

-- as long as its head states, in bytes
abbrev pub mb_block_size : List ℕ → ℕ → ℕ
mb_block_size mb base = mb_unit * units_at mb base

-- a block of at least one unit that is inside the file
abbrev pub block_inside : List ℕ → ℕ → Bool
block_inside mb base = leb 1 (units_at mb base) && leb (base + mb_block_size mb base) (length mb)

-- ---- a blob that a block states

-- by where it begins in the block, and its length
abbrev pub stated_is : ℕ → ℕ → Option Stated
stated_is begin len = Some (record { begin = begin; len = len })

-- ---- a block of its own: behind kind and units the blob's length, 4 bytes, and a modification number

abbrev pub own_low_byte : ℕ
own_low_byte = 0xFF

abbrev pub own_kind : ℕ
own_kind = 2

abbrev pub own_length : List ℕ → ℕ → ℕ
own_length mb base = long mb (base + 3)

-- its head's size: the blob begins there
abbrev pub own_head : ℕ
own_head = 9

-- the blob that it states, where it is such a block
unfoldable pub own_stated : List ℕ → ℕ → Option Stated
own_stated mb base = cond (eqb (block_kind mb base) own_kind) (stated_is own_head (own_length mb base)) None

-- ---- a suballocated block: a head of 12 bytes, 64 entries of 5 bytes, blobs in units of 16 bytes

abbrev pub sub_kind : ℕ
sub_kind = 3

abbrev pub sub_head : ℕ
sub_head = 12

abbrev pub entries : ℕ
entries = 64

abbrev pub entry_size : ℕ
entry_size = 5

abbrev pub sub_unit : ℕ
sub_unit = 16

-- where the entries end, however many are used: no blob begins before
abbrev pub entries_end : ℕ
entries_end = sub_head + entry_size * entries

-- where entry i, counted from 0, stands in the file
abbrev pub entry_place : ℕ → ℕ → ℕ
entry_place base i = base + sub_head + entry_size * i

-- of the entry at e: where its blob begins in the block
abbrev pub entry_begin : List ℕ → ℕ → ℕ
entry_begin mb e = sub_unit * byte mb e

-- how many units the blob takes, the last of them in part
abbrev pub entry_units : List ℕ → ℕ → ℕ
entry_units mb e = byte mb (e + 1)

-- how many bytes of the last unit it has; bytes 2 and 3 are a modification number
abbrev pub entry_last : List ℕ → ℕ → ℕ
entry_last mb e = byte mb (e + 4)

-- its length: the units before the last, and the bytes of the last
abbrev pub entry_length : List ℕ → ℕ → ℕ
entry_length mb e = sub_unit * (entry_units mb e - 1) + entry_last mb e

-- the entry has a blob, and it begins behind the entries
abbrev pub entry_used : List ℕ → ℕ → Bool
entry_used mb e =
    leb 1 (entry_units mb e)
    && leb 1 (entry_last mb e)
    && leb (entry_last mb e) sub_unit
    && leb entries_end (entry_begin mb e)

-- the blob that the entry at e states
unfoldable pub entry_blob : List ℕ → ℕ → Option Stated
entry_blob mb e = cond (entry_used mb e) (stated_is (entry_begin mb e) (entry_length mb e)) None

-- the blob that entry i states, where it is such a block
unfoldable pub entry_stated : List ℕ → ℕ → ℕ → Option Stated
entry_stated mb base i = cond (eqb (block_kind mb base) sub_kind) (entry_blob mb (entry_place base i)) None

-- ---- what an offset gives

-- the blob that the block at a base states, by the offset's low byte; 40 to FE name nothing
unfoldable pub stated_at : List ℕ → ℕ → ℕ → Option Stated
stated_at mb base low =
    cond (eqb low own_low_byte) (own_stated mb base) (cond (ltb low entries) (entry_stated mb base low) None)
