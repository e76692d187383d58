-- Table rules 1 to 7, and the verdict that tries them in this order. Definitions only.
use Rattle.std.specs.Prelude.{ℕ, ◌+◌, ◌*◌, Bool, cond, not, ◌&&◌, ◌||◌, List, eqb, leb, length}
use Rattle.words.specs.Zeros.{all_zero}
use Rattle.header.specs.Refusals.{Verdict, kept, first_broken}
use Rattle.header.specs.declared.refusal.Refusal.TheVariants.{TooShort, NotATable, UnknownVersion, Encrypted}
use Rattle.header.specs.declared.refusal.Refusal.TheVariants.{HeaderLimit, WrongLength, FieldRule}
use Rattle.header.specs.Stored.{stored_of, unit, block_size, encryption_at}
use Rattle.header.specs.Fields.{fields_right}
use Rattle.header.specs.declared.stored.Stored.{Stored}

-- ---- the limits, by name

-- 1 and 5: the least length of a file, and the least header size
abbrev pub least_header : ℕ
least_header = 120

-- 3: the versions, 03 to 0B
abbrev pub least_version : ℕ
least_version = 0x03

abbrev pub most_version : ℕ
most_version = 0x0B

-- 5: the largest block, in units of 1,024
abbrev pub most_units : ℕ
most_units = 4

-- 5: a block's head, which a record leaves free
abbrev pub block_head : ℕ
block_head = 6

-- 5: the most blocks in a file
abbrev pub most_blocks : ℕ
most_blocks = 32767

-- 5: the most fields
abbrev pub most_fields : ℕ
most_fields = 255

-- 5: the largest signed 32-bit number; a count above it is below 0
abbrev pub most_records : ℕ
most_records = 2147483647

-- ---- the rules

-- 1: a file of at least 120 bytes
unfoldable pub long_enough : ℕ → Bool
long_enough long = leb least_header long

-- 2: byte 04 is 0 (a keyed table) or 2 (one without key)
unfoldable pub is_table : Stored → Bool
is_table s = eqb s.kind 0 || eqb s.kind 2

-- 3, and 23 of an index: byte 39 is 03 to 0B
unfoldable pub known_version : ℕ → Bool
known_version version = leb least_version version && leb version most_version

-- 4: the four encryption bytes are zero
unfoldable pub unencrypted : List ℕ → ℕ → Bool
unencrypted t at = all_zero t at 4

-- 5: with key fields byte 04 and the sort byte are 0 (keyed, plain byte order); without them byte 04 is not 0
unfoldable pub keyed_right : Stored → Bool
keyed_right s = cond (leb 1 s.key_fields) (eqb s.kind 0 && eqb s.sort 0) (not (eqb s.kind 0))

-- 5: every number of the header within its limit
unfoldable pub limits_kept : Stored → Bool
limits_kept s =
    leb 1 s.units
    && leb s.units most_units
    && leb 1 s.record_size
    && leb (s.record_size + block_head) (block_size s)
    && leb least_header s.header_size
    && leb s.blocks most_blocks
    && leb 1 s.fields
    && leb s.fields most_fields
    && leb s.key_fields s.fields
    && leb s.records most_records
    && keyed_right s

-- 6, and 26 of an index: the length is the header and the blocks, exactly
unfoldable pub length_right : ℕ → ℕ → ℕ → ℕ → Bool
length_right long header blocks units = eqb long (header + blocks * (units * unit))

-- 7: fields_right, of Fields

-- ---- the verdict, of a file by its front and its length: the first broken rule's refusal, or that all are kept

-- 1 to 5; `others` is what the rules after them answer
unfoldable pub limits_verdict : List ℕ → ℕ → Verdict → Verdict
limits_verdict front long others =
    first_broken (long_enough long) TooShort
    (first_broken (is_table (stored_of front)) NotATable
    (first_broken (known_version (stored_of front).version) UnknownVersion
    (first_broken (unencrypted front (encryption_at (stored_of front).version)) Encrypted
    (first_broken (limits_kept (stored_of front)) HeaderLimit others))))

-- 6: the length of a file by its header's numbers
abbrev pub stored_length : ℕ → Stored → Bool
stored_length long s = length_right long s.header_size s.blocks s.units

-- 6 and 7
unfoldable pub fields_verdict : List ℕ → ℕ → Verdict
fields_verdict front long =
    first_broken (stored_length long (stored_of front)) WrongLength
    (first_broken (fields_right front (stored_of front)) FieldRule kept)

-- 1 to 7
unfoldable pub header_verdict : List ℕ → ℕ → Verdict
header_verdict front long = limits_verdict front long (fields_verdict front long)

-- the verdict on a whole file
abbrev pub header_refusal : List ℕ → Verdict
header_refusal t = header_verdict t (length t)
