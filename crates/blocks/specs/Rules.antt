-- The count rule as a plain proposition (refusal 9; 27 in an index). Definitions only.
use Rattle.std.specs.Prelude.{ℕ, suc, ◌+◌, ◌-◌, ◌*◌, ◌≤◌, ◌≡◌, List, ℤ, pos, negsuc}
use Rattle.words.specs.Numbers.{word}
use Rattle.words.specs.Signed.{half, signed}
use Rattle.header.specs.Header.{block_head}
use Rattle.blocks.specs.Shape.{block_at}
use Rattle.blocks.specs.Counts.{last_record}
use Rattle.blocks.specs.declared.Shape.{Shape}

-- a good count, by the signed number in a block's head, and the records that it stands for: minus the record size is
-- none; a multiple of the record size, at least 0, whose record ends inside the block, is one record more than the
-- multiple. With a record size of at least 1, which the limits give (5, 25), there is one such number. negsuc d is
-- -(d + 1)
pub data GoodCount (block size : ℕ) : ℤ → ℕ → Type 0 where
  none : {d : ℕ} → suc d ≡ size → GoodCount block size (negsuc d) 0
  some : {m times : ℕ} → m ≡ times * size → m + size ≤ block - block_head → GoodCount block size (pos m) (suc times)

-- block b of a file has a good count, and holds n records
abbrev pub Holds : List ℕ → Shape → ℕ → ℕ → Type 0
Holds t g b n =
    GoodCount g.block_size g.record_size (signed (half 2) (word t (block_at g b + last_record))) n

-- block b is in the file, has a good count and holds n records; those of an index block are its entries
pub record BlockHolds (s : List ℕ) (g : Shape) (b n : ℕ) : Type 0 where
  pub low : 1 ≤ b
  pub high : b ≤ g.blocks
  pub holds : Holds s g b n
