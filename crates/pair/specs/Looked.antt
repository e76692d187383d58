-- How many entries of an index are looked at when its tree is read along with the used chain, left to right, and given
-- up at the first fault. No rule is stated here. Definitions only.
use Rattle.std.specs.Prelude.{ℕ, zero, suc, ◌+◌, cond, List, [], ◌∷◌, eqb, Option, Some, None}
use Rattle.header.specs.declared.Header.{Header}
use Rattle.blocks.specs.Shape.{shape_of}
use Rattle.blocks.specs.Counts.{count_in}
use Rattle.blocks.specs.declared.Shape.{Shape}
use Rattle.table.specs.Records.{held}
use Rattle.index.specs.Entries.{entries_in, entry_block}
use Rattle.index.specs.declared.IndexHeader.{IndexHeader}
use Rattle.pair.specs.Tree.{Entry, entry_at}
use Rattle.pair.specs.Steps.{Shapes, entry_from_at, shapes_in}
use Rattle.pair.specs.declared.tree.Pair.{Pair}

-- the shapes of a table and its index, by their headers
abbrev pub shapes_of : Header → IndexHeader → Shapes
shapes_of h i = record { table = shape_of h; index = i.shape; key_length = h.key_length }

-- how many of some blocks of a table hold records
unfoldable pub holders : List ℕ → Shape → List ℕ → ℕ
holders t g [] = 0
holders t g (b ∷ bs) = cond (eqb (held (count_in t g b)) 0) (holders t g bs) (suc (holders t g bs))

-- what is looked at behind a part of a tree: with the chain at the number where the part leaves it, or nothing where
-- the part does not fit
unfoldable pub looked_after : Option ℕ → (ℕ → ℕ) → ℕ
looked_after (Some c) looked = looked c
looked_after None looked = 0

-- of so many entries from number i on, where the chain is at number c: what each looks at, with the chain where the one
-- before left it, up to the first that does not fit
unfoldable pub looked_from : (ℕ → ℕ → ℕ) → (ℕ → ℕ → Option ℕ) → ℕ → ℕ → ℕ → ℕ
looked_from looked fit i zero c = 0
looked_from looked fit i (suc more) c =
    looked i c + looked_after (fit i c) (λ (d : ℕ). looked_from looked fit (suc i) more d)

-- how often an entry counts, by the level of the block that it names: each one once
abbrev pub every_entry : ℕ → ℕ
every_entry level = 1

-- only those that stand in blocks at level k
abbrev pub entries_at : ℕ → ℕ → ℕ
entries_at k level = cond (eqb (suc level) k) 1 0

module _ (t x : List ℕ) (s : Shapes) where
  -- the entries looked at in a block at a level, where the chain is at number c: its own, and those in the blocks that
  -- they name, each as often as it counts. Level 0 is a data block, which has none
  unfoldable pub entries_looked : (ℕ → ℕ) → ℕ → ℕ → ℕ → ℕ
  entries_looked often zero b c = 0
  entries_looked often (suc level) b c =
      looked_from
      (λ (i d : ℕ). often level + entries_looked often level (entry_block x s.index s.key_length b i) d)
      (entry_from_at t x s level b) 0 (entries_in x s.index b) c

  -- how many they are
  abbrev pub block_looked : ℕ → ℕ → ℕ → ℕ
  block_looked level b c = entries_looked every_entry level b c

  -- an entry whose block is at a level: itself, and those in its block
  abbrev pub entry_looked : ℕ → Entry → ℕ → ℕ
  entry_looked level e c = 1 + block_looked level e.block c

  -- the same of entry i of index block b
  abbrev pub entry_looked_at : ℕ → ℕ → ℕ → ℕ → ℕ
  entry_looked_at level b i c = entry_looked level (entry_at x s.index s.key_length b i) c

-- ---- the same in the files of a pair

abbrev pub block_looked_of : Pair → ℕ → ℕ → ℕ → ℕ
block_looked_of p level b c = block_looked p.table.bytes.now p.index.bytes.now (shapes_in p) level b c

abbrev pub entry_looked_of : Pair → ℕ → ℕ → ℕ → ℕ → ℕ
entry_looked_of p level b i c = entry_looked_at p.table.bytes.now p.index.bytes.now (shapes_in p) level b i c
