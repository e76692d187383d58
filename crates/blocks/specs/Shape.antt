-- A file of blocks, data table or index: where its blocks and records stand. Blocks count from 1, places from 0.
-- Definitions only.
use Rattle.std.specs.Prelude.{ℕ, ◌+◌, ◌-◌, ◌*◌, ◌≤◌, ◌<◌, ◌≡◌, Bool, ◌&&◌, List, leb, length}
use Rattle.header.specs.Header.{block_head}
use Rattle.header.specs.declared.Header.{Header}
use Rattle.blocks.specs.declared.Shape.{Shape}

-- the shape of a table, by its header
unfoldable pub shape_of : Header → Shape
shape_of h =
    record {
      header_size = h.header_size;
      block_size = h.block_size;
      blocks = h.blocks;
      record_size = h.record_size;
    }

-- b is the number of one of n blocks
unfoldable pub in_file : ℕ → ℕ → Bool
in_file n b = leb 1 b && leb b n

-- 13, 8, 27: whether block b is in the file
unfoldable pub has_block : Shape → ℕ → Bool
has_block g b = in_file g.blocks b

-- where block b begins
abbrev pub block_at : Shape → ℕ → ℕ
block_at g b = g.header_size + (b - 1) * g.block_size

-- where the record at place i of block b begins: records follow the block's head
abbrev pub record_at : Shape → ℕ → ℕ → ℕ
record_at g b i = block_at g b + block_head + i * g.record_size

-- what the rules for lengths and sizes give: the blocks fill the file behind its header, and a block has room for a
-- record
pub record Sound (t : List ℕ) (g : Shape) : Type 0 where
  pub whole : length t ≡ g.header_size + g.blocks * g.block_size
  pub size_least : 1 ≤ g.record_size
  pub size_most : g.record_size + block_head ≤ g.block_size

-- the records of block b, n of them, stand inside the file, and a key is a part of its record
pub record RunInside (t : List ℕ) (g : Shape) (key b n : ℕ) : Type 0 where
  pub low : 1 ≤ b
  pub high : b ≤ g.blocks
  pub few : n < 65536
  pub short : key ≤ g.record_size
  pub inside : (i : ℕ) → i < n → record_at g b i + g.record_size ≤ length t
