-- What the functions that read entries and walk ask and answer. No rule is stated here. Definitions only.
use Rattle.std.specs.Prelude.{ℕ, ◌+◌, ◌≤◌, ◌≡◌, cond, List, eqb, Option, Result, Ok, Err}
use Rattle.header.specs.declared.refusal.Refusal.{Refusal}
use Rattle.header.specs.declared.refusal.Refusal.TheVariants.{IndexTree}
use Rattle.blocks.specs.declared.Shape.{Shape}
use Rattle.blocks.specs.declared.file.BlockFile.{BlockFile}
use Rattle.index.specs.Header.{entry_numbers}
use Rattle.index.specs.Entries.{entries_in, below}
use Rattle.index.specs.Walk.{walk_from}
use Rattle.index.specs.declared.walking.Walked.{Walked}

-- the way down from index block b; 27 where it has no entry
unfoldable pub descent_of : List ℕ → Shape → List ℕ → ℕ → Result (Option ℕ) Refusal
descent_of x g key b = cond (eqb (entries_in x g b) 0) (Err IndexTree) (Ok (below x g key b (entries_in x g b)))

-- what a walk asks of both files' shapes: a key of n bytes is no longer than a record, and an entry of the index is
-- such a key and its numbers
pub record Walkable (g gx : Shape) (n : ℕ) : Type 0 where
  pub short : n ≤ g.record_size
  pub size : gx.record_size ≡ n + entry_numbers

-- the walk over a table's and an index's file from block b, so many levels down
abbrev pub from_block : BlockFile → BlockFile → List ℕ → ℕ → ℕ → Result Walked Refusal
from_block t x key levels b = walk_from t.bytes.now t.shape x.bytes.now x.shape key levels b 0
