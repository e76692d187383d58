-- A cell of a table replaced by a value that was written, said of what the calls answer. Definitions only.
use Rattle.std.specs.Prelude.{ℕ, ◌≤◌, ◌<◌, ◌≡◌, List, length, take}
use Rattle.words.specs.Order.{range}
use Rattle.words.specs.Replace.{replace_at}
use Rattle.header.specs.Header.{block_head}
use Rattle.header.specs.Numbers.{numbers_of}
use Rattle.header.specs.Answers.{header_answer}
use Rattle.blocks.specs.Shape.{shape_of, block_at}
use Rattle.blocks.specs.Counts.{count_in}
use Rattle.cell.specs.Values.{Content}
use Rattle.cell.specs.Reading.{cell_of, read_of}
use Rattle.blob.specs.Blob.{blob_of, blob_bytes}
use Rattle.chain.specs.Links.{links_of}
use Rattle.table.specs.Table.{table_answer, table_marks}

-- a table with the first w bytes of a buffer in the place of its own from an offset on
abbrev pub with_cell : List ℕ → ℕ → ℕ → List ℕ → List ℕ
with_cell t at w buffer = replace_at t at (take w buffer)

-- another cell than the one at a block, a place and a field
abbrev pub Other : ℕ → ℕ → ℕ → ℕ → ℕ → ℕ → Type 0
Other b p f block place field = b ≡ block → p ≡ place → f ≡ field → ⊥

-- the table u, beside the table t, in which the cell at block b, place p and field f was replaced by a value
pub record Replaced (t : List ℕ) (b p f : ℕ) (value : Content) (u : List ℕ) : Type 0 where
  -- the same length, the same bytes of the header, and the same answer of reading it
  pub long : length u ≡ length t
  pub front : range u 0 (numbers_of t).header_size ≡ range t 0 (numbers_of t).header_size
  pub header : header_answer u ≡ header_answer t
  -- the same heads of the blocks: the same links, the same counts
  pub heads : (block : ℕ) → 1 ≤ block →
      range u (block_at (shape_of (numbers_of t)) block) block_head
      ≡ range t (block_at (shape_of (numbers_of t)) block) block_head
  pub links : links_of u (numbers_of u) ≡ links_of t (numbers_of t)
  pub counts : (block : ℕ) →
      count_in u (shape_of (numbers_of u)) block ≡ count_in t (shape_of (numbers_of t)) block
  -- that cell reads as the value
  pub cell : read_of u b p f ≡ (0, value)
  -- every other cell reads as before: a text is the same part, of the same bytes
  pub others : (block place field : ℕ) → Other b p f block place field →
      (cell_of u block place field ≡ cell_of t block place field)
      × (read_of u block place field ≡ read_of t block place field)
  -- every blob is where it was, of the same bytes, whatever the MB file
  pub blobs : (mb : List ℕ) (block place field : ℕ) →
      (blob_of u mb block place field ≡ blob_of t mb block place field)
      × (blob_bytes u mb (blob_of u mb block place field) ≡ blob_bytes t mb (blob_of t mb block place field))
  -- the table check leaves the same marks; where the field is no key field, it answers the same
  pub marks : (m : List ℕ) → table_marks u m ≡ table_marks t m
  pub check : (numbers_of t).key_fields < f → (room : ℕ) → table_answer u room ≡ table_answer t room
