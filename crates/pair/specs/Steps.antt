-- What the functions that go down a tree ask and answer. No rule is stated here. Definitions only.
use Rattle.std.specs.Prelude.{ℕ, ◌+◌, ◌<◌, ◌≤◌, ◌≡◌, Bool, cond, not, ◌&&◌, List, [], ◌∷◌, eqb, Option, Some, None}
use Rattle.words.specs.Order.{is_same, order, range}
use Rattle.header.specs.declared.Header.{Header}
use Rattle.blocks.specs.Counts.{count_in}
use Rattle.blocks.specs.declared.Shape.{Shape}
use Rattle.chain.specs.Links.{next_of, blocks_from}
use Rattle.chain.specs.Rules.{GoodFrom}
use Rattle.table.specs.Records.{held}
use Rattle.table.specs.Rules.{AcceptedTable}
use Rattle.index.specs.Header.{entry_numbers}
use Rattle.index.specs.Rules.{AcceptedIndex}
use Rattle.index.specs.declared.IndexHeader.{IndexHeader}
use Rattle.pair.specs.Tree.{Entry, entry_at, key_right, fits, leaves, tree_leaves, first_entry}
use Rattle.pair.specs.declared.tree.Pair.{Pair}

-- ---- the used blocks that hold records, one after another

-- the first of some blocks that holds records; 0 where there is none
unfoldable pub first_holding : List ℕ → Shape → List ℕ → ℕ
first_holding t g [] = 0
first_holding t g (b ∷ bs) = cond (eqb (held (count_in t g b)) 0) (first_holding t g bs) b

-- the first block that holds records, from number b of its chain on
abbrev pub holding_from : List ℕ → Shape → ℕ → ℕ
holding_from t g b = first_holding t g (blocks_from t g b)

-- a level 1 entry that is expected where the chain is at number c: it names the next block that holds records, with
-- its first key
unfoldable pub is_expected : List ℕ → Shape → ℕ → Entry → ℕ → Bool
is_expected t g n e c =
    not (eqb (holding_from t g c) 0)
    && eqb e.block (holding_from t g c)
    && is_same (order e.key (first_entry t g n (holding_from t g c)).key)

-- level 1 entries that are expected one after another: where the chain is after them; None where one is not expected
unfoldable pub follow : List ℕ → Shape → ℕ → List Entry → ℕ → Option ℕ
follow t g n [] c = Some c
follow t g n (e ∷ es) c = cond (is_expected t g n e c) (follow t g n es (next_of t g (holding_from t g c))) None

-- ---- down the tree

-- the shapes of a table and its index, and the key length
pub record Shapes : Type 0 where
  pub table : Shape
  pub index : Shape
  pub key_length : ℕ

module _ (t x : List ℕ) (s : Shapes) where
  -- an entry whose block is at a level: it fits, and its level 1 entries are the next ones expected
  unfoldable pub entry_from : ℕ → Entry → ℕ → Option ℕ
  entry_from level e c =
      cond (fits x s.index s.key_length level e.block && key_right x s.index s.key_length level e)
      (follow t s.table s.key_length (leaves x s.index s.key_length level e) c) None

  -- the same of entry i of index block b
  abbrev pub entry_from_at : ℕ → ℕ → ℕ → ℕ → Option ℕ
  entry_from_at level b i c = entry_from level (entry_at x s.index s.key_length b i) c

  -- an index block at a level: the same
  unfoldable pub block_from : ℕ → ℕ → ℕ → Option ℕ
  block_from level b c =
      cond (fits x s.index s.key_length level b)
      (follow t s.table s.key_length (tree_leaves x s.index s.key_length level b) c) None

  -- a level 1 entry, whose key stands at an offset and which names a block
  abbrev pub leaf_from : ℕ → ℕ → ℕ → Option ℕ
  leaf_from at named c =
      follow t s.table s.key_length (record { key = range x at s.key_length; block = named } ∷ []) c

-- ---- the same in the files of a pair

abbrev pub shapes_in : Pair → Shapes
shapes_in p = record { table = p.table.shape; index = p.index.shape; key_length = p.key_length }

abbrev pub entry_of : Pair → ℕ → ℕ → ℕ → ℕ → Option ℕ
entry_of p level b i c = entry_from_at p.table.bytes.now p.index.bytes.now (shapes_in p) level b i c

abbrev pub block_of : Pair → ℕ → ℕ → ℕ → Option ℕ
block_of p level b c = block_from p.table.bytes.now p.index.bytes.now (shapes_in p) level b c

abbrev pub leaf_of : Pair → ℕ → ℕ → ℕ → Option ℕ
leaf_of p at named c = leaf_from p.table.bytes.now p.index.bytes.now (shapes_in p) at named c

-- what going down a tree asks, where the chain of the table is at number c: that chain is good, the table has no more
-- blocks than is allowed, and a key is no longer than a record and, with its numbers, an entry
pub record Descendable (p : Pair) (c : ℕ) : Type 0 where
  pub chain : GoodFrom p.table.bytes.now p.table.shape c
  pub few : p.table.shape.blocks < 65536
  pub short : p.key_length ≤ p.table.shape.record_size
  pub size : p.index.shape.record_size ≡ p.key_length + entry_numbers

-- what judging a tree asks: an accepted table, and an index that is accepted for its key length
pub record Paired (t : List ℕ) (h : Header) (x : List ℕ) (i : IndexHeader) : Type 0 where
  pub table : AcceptedTable t h
  pub index : AcceptedIndex x h.key_length i
