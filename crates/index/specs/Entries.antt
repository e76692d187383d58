-- Index entries fill blocks as records do: the key of n bytes, then three numbers of 16 bits, high byte first, the
-- top bit complemented. The first of them is a block's number; the others are not judged. Definitions only.
use Rattle.std.specs.Prelude.{ℕ, zero, suc, ◌+◌, cond, List, length, Option, Some, None}
use Rattle.words.specs.Numbers.{big}
use Rattle.words.specs.Order.{is_at_most, order}
use Rattle.words.specs.Signed.{half, complemented}
use Rattle.blocks.specs.Shape.{has_block, record_at}
use Rattle.blocks.specs.Counts.{count_in}
use Rattle.blocks.specs.declared.Shape.{Shape}
use Rattle.table.specs.Records.{held}
use Rattle.table.specs.Keys.{key_at}

-- 27: how many entries index block b has. It is 0 for a block outside the file and for one with a bad count, too
unfoldable pub entries_in : List ℕ → Shape → ℕ → ℕ
entries_in x g b = cond (has_block g b) (held (count_in x g b)) 0

-- the key of entry i of index block b
abbrev pub entry_key : List ℕ → Shape → ℕ → ℕ → ℕ → List ℕ
entry_key x g n b i = key_at x g n (record { block = b; place = i })

-- a block's number at an offset: two bytes, the top bit complemented
unfoldable pub block_number : List ℕ → ℕ → ℕ
block_number x at = complemented (half 2) (big x at 2)

-- the block that entry i of index block b names
unfoldable pub entry_block : List ℕ → Shape → ℕ → ℕ → ℕ → ℕ
entry_block x g n b i = block_number x (record_at g b i + n)

-- the block that is named by the last, by place, of the first m entries of index block b whose key is at most the one
-- sought
unfoldable pub below : List ℕ → Shape → List ℕ → ℕ → ℕ → Option ℕ
below x g key b zero = None
below x g key b (suc i) =
    cond (is_at_most (order (entry_key x g (length key) b i) key)) (Some (entry_block x g (length key) b i))
    (below x g key b i)
