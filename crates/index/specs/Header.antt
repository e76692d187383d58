-- Index rules 21, 22, 23, 25 and 26, tried in this order, and the header of an index file that keeps them; n is the
-- table's key length. Definitions only.
use Rattle.std.specs.Prelude.{ℕ, ◌+◌, ◌*◌, Bool, ◌&&◌, ◌||◌, List, [], ◌∷◌, eqb, leb, length, Result, Ok, Err}
use Rattle.header.specs.Refusals.{Verdict, kept, first_broken}
use Rattle.header.specs.Answers.{unless_refused}
use Rattle.header.specs.declared.refusal.Refusal.{Refusal}
use Rattle.header.specs.declared.refusal.Refusal.TheVariants.{IndexTooShort, NotAnIndex, IndexVersion, IndexLimit}
use Rattle.header.specs.declared.refusal.Refusal.TheVariants.{IndexLength}
use Rattle.header.specs.Stored.{unit}
use Rattle.header.specs.Header.{most_units, block_head, most_blocks, known_version, length_right}
use Rattle.blocks.specs.Shape.{in_file}
use Rattle.index.specs.Stored.{stored_of}
use Rattle.index.specs.declared.IndexHeader.{IndexHeader}
use Rattle.index.specs.declared.stored.Stored.{Stored}

-- ---- the limits, by name

-- 21 and 25: the least length of a file, and the least header size
abbrev pub least_index : ℕ
least_index = 88

-- 22: byte 04 of an index
abbrev pub index_kind : ℕ
index_kind = 1

-- 25: an entry's three numbers of 16 bits behind its key
abbrev pub entry_numbers : ℕ
entry_numbers = 6

-- 25: the most levels
abbrev pub most_levels : ℕ
most_levels = 8

-- ---- the rules

-- 21: at least 88 bytes
unfoldable pub long_enough : List ℕ → Bool
long_enough x = leb least_index (length x)

-- 22: byte 04 is 1
unfoldable pub is_index : Stored → Bool
is_index s = eqb s.kind index_kind

-- 25: root and levels are both 0, or the root is a block of the file and there are 1 to 8 levels
unfoldable pub root_right : Stored → Bool
root_right s =
    (eqb s.root 0 && eqb s.levels 0)
    || (in_file s.blocks s.root && leb 1 s.levels && leb s.levels most_levels)

-- 25: every number of the header within its limit
unfoldable pub limits_kept : ℕ → Stored → Bool
limits_kept n s =
    eqb s.record_size (n + entry_numbers)
    && leb least_index s.header_size
    && leb 1 s.units
    && leb s.units most_units
    && leb s.blocks most_blocks
    && leb (s.record_size + block_head) (s.units * unit)
    && root_right s

-- 26: the length is that of the header and the blocks; it is 6's rule
abbrev pub length_kept : ℕ → Stored → Bool
length_kept bytes s = length_right bytes s.header_size s.blocks s.units

-- the first broken rule's refusal, or that the rules are kept. 23 is 3's rule
unfoldable pub index_answer : List ℕ → ℕ → Verdict
index_answer x n =
    first_broken (long_enough x) IndexTooShort
    (first_broken (is_index (stored_of x)) NotAnIndex
    (first_broken (known_version (stored_of x).version) IndexVersion
    (first_broken (limits_kept n (stored_of x)) IndexLimit
    (first_broken (length_kept (length x) (stored_of x)) IndexLength kept))))

-- the refusals of these rules
unfoldable pub index_refusals : List Refusal
index_refusals = IndexTooShort ∷ NotAnIndex ∷ IndexVersion ∷ IndexLimit ∷ IndexLength ∷ []

-- ---- the answer

-- the numbers of a header that keeps the rules: the file's shape, whose records are the entries, the root and the
-- levels
unfoldable pub accepted_of : Stored → IndexHeader
accepted_of s =
    record {
      shape = record {
        header_size = s.header_size;
        block_size = s.units * unit;
        blocks = s.blocks;
        record_size = s.record_size;
      };
      root = s.root;
      levels = s.levels;
    }

-- the header's numbers, of any bytes: no rule is asked for here
abbrev pub index_numbers : List ℕ → IndexHeader
index_numbers x = accepted_of (stored_of x)

-- what reading an index's header answers, for any bytes and any key length: a refusal, or the header's numbers
unfoldable pub index_of : List ℕ → ℕ → Result IndexHeader Refusal
index_of x n = unless_refused (index_answer x n) Err (Ok (index_numbers x))
