-- Count rules over the used blocks, a list of block numbers (refusal 9). Definitions only.
use Rattle.std.specs.Prelude.{ℕ, ◌+◌, ◌-◌, ◌*◌, Bool, true, false, ◌&&◌, List, [], ◌∷◌, eqb, Option, Some, None}
use Rattle.header.specs.Header.{most_units, block_head, most_blocks}
use Rattle.header.specs.Stored.{unit}
use Rattle.header.specs.declared.Header.{Header}
use Rattle.blocks.specs.Shape.{shape_of}
use Rattle.blocks.specs.Counts.{count_in}
use Rattle.blocks.specs.declared.Shape.{Shape}
use Rattle.chain.specs.Chain.{every}
use Rattle.table.specs.Records.{held}

-- a block's count keeps the count rule
unfoldable pub is_good : Option ℕ → Bool
is_good (Some n) = true
is_good None = false

-- the count of every one of some blocks is good
abbrev pub counts_good : List ℕ → Shape → List ℕ → Bool
counts_good t g bs = every (λ (b : ℕ). is_good (count_in t g b)) bs

-- numbers added up
unfoldable pub sum : List ℕ → ℕ
sum [] = 0
sum (n ∷ ns) = n + sum ns

-- the counts of some blocks added up
unfoldable pub total : List ℕ → Shape → List ℕ → ℕ
total t g [] = 0
total t g (b ∷ bs) = held (count_in t g b) + total t g bs

-- 9: the count of every used block is good, and they add up to the header's
unfoldable pub counts_right : List ℕ → Header → List ℕ → Bool
counts_right t h used = counts_good t (shape_of h) used && eqb (total t (shape_of h) used) h.records

-- no rule, but what the limits give: the counts of a table's blocks, none of them twice, add up to no more than this,
-- as no block holds more records than it has bytes behind its head
abbrev pub most_total : ℕ
most_total = most_blocks * (most_units * unit - block_head)
