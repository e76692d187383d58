-- What the private functions answer: no rule is stated here. Definitions only.
use Rattle.std.specs.Prelude.{ℕ, cond, List, Option, Some, None}
use Rattle.blob.specs.Mb.{mb_block_size, block_inside}

-- the length of the block at a base; None where no block of at least one unit is there inside the file
unfoldable pub size_in : List ℕ → ℕ → Option ℕ
size_in mb base = cond (block_inside mb base) (Some (mb_block_size mb base)) None
