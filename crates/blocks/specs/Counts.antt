-- Count rules (refusal 9; 27 in an index): how many records a block holds. Definitions only.
use Rattle.std.specs.Prelude.{ℕ, suc, ◌+◌, ◌-◌, ◌/◌, ◌%◌, cond, ◌&&◌, List, eqb, leb, ℤ, pos, negsuc}
use Rattle.std.specs.Prelude.{Option, Some, None}
use Rattle.words.specs.Numbers.{word}
use Rattle.words.specs.Signed.{half, signed}
use Rattle.header.specs.Header.{block_head}
use Rattle.blocks.specs.Shape.{block_at}
use Rattle.blocks.specs.declared.Shape.{Shape}

-- the count by the offset of the last record: minus the record size is none; else a multiple of the record size, at
-- least 0, whose record ends inside the block. negsuc d is -(d + 1)
unfoldable pub count_of : ℕ → ℕ → ℤ → Option ℕ
count_of block size (negsuc d) = cond (eqb (suc d) size) (Some 0) None
count_of block size (pos n) = cond (eqb (n % size) 0 && leb (n + size) (block - block_head)) (Some (n / size + 1)) None

-- where the third word of a block's head stands: the offset of the last record, a signed number
abbrev pub last_record : ℕ
last_record = 4

-- 9: the count of block b
unfoldable pub count_in : List ℕ → Shape → ℕ → Option ℕ
count_in t g b = count_of g.block_size g.record_size (signed (half 2) (word t (block_at g b + last_record)))
