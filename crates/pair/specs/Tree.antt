-- The tree of an index: when a block fits, and what its level 1 entries are. Keys have n bytes. Definitions only.
use Rattle.std.specs.Prelude.{ℕ, zero, suc, Bool, true, false, cond, not, ◌&&◌, List, [], ◌∷◌, ◌++◌, eqb}
use Rattle.words.specs.Each.{each}
use Rattle.words.specs.Order.{is_same, order}
use Rattle.blocks.specs.Counts.{count_in}
use Rattle.blocks.specs.declared.Shape.{Shape}
use Rattle.table.specs.Records.{held}
use Rattle.table.specs.Keys.{key_at}
use Rattle.index.specs.Entries.{entries_in, entry_key, entry_block}

-- an index entry: its key and the block that it names
pub record Entry : Type 0 where
  pub key : List ℕ
  pub block : ℕ

-- entry i of index block b
abbrev pub entry_at : List ℕ → Shape → ℕ → ℕ → ℕ → Entry
entry_at x g n b i = record { key = entry_key x g n b i; block = entry_block x g n b i }

-- ---- blocks and entries that fit

-- 27: an entry above level 1 has the key of the first entry in the block it names; the keys of level 1 entries are
-- judged with their blocks below. The level is that of the block named, 0 for a data block
unfoldable pub key_right : List ℕ → Shape → ℕ → ℕ → Entry → Bool
key_right x g n zero e = true
key_right x g n (suc level) e = is_same (order e.key (entry_key x g n e.block 0))

-- 27: an index block fits when it is in the file, its count is good, it has entries and each of them fits; an entry
-- fits when its block fits one level lower. Level 0 is a data block
unfoldable pub fits : List ℕ → Shape → ℕ → ℕ → ℕ → Bool
fits x g n zero b = true
fits x g n (suc level) b =
    not (eqb (entries_in x g b) 0)
    && each (λ (i : ℕ). fits x g n level (entry_block x g n b i) && key_right x g n level (entry_at x g n b i))
    (entries_in x g b)

-- ---- the level 1 entries

-- the lists of 0, 1 and so on below m, one after another
unfoldable pub joined : (ℕ → List Entry) → ℕ → List Entry
joined list zero = []
joined list (suc i) = joined list i ++ list i

-- the level 1 entries that an entry leads to, read left to right: at level 0 its block is a data block, and it is one
-- itself
unfoldable pub leaves : List ℕ → Shape → ℕ → ℕ → Entry → List Entry
leaves x g n zero e = e ∷ []
leaves x g n (suc level) e =
    joined (λ (i : ℕ). leaves x g n level (entry_at x g n e.block i)) (entries_in x g e.block)

-- the root as an entry: none names it, and so it has no key
abbrev pub root_entry : ℕ → Entry
root_entry root = record { key = []; block = root }

-- the level 1 entries of a tree
abbrev pub tree_leaves : List ℕ → Shape → ℕ → ℕ → ℕ → List Entry
tree_leaves x g n levels root = leaves x g n levels (root_entry root)

-- a data block with its first key
abbrev pub first_entry : List ℕ → Shape → ℕ → ℕ → Entry
first_entry t g n b = record { key = key_at t g n (record { block = b; place = 0 }); block = b }

-- 27: what they are to be: of some blocks of a table those that hold records, in order, each with its first key
unfoldable pub first_keys : List ℕ → Shape → ℕ → List ℕ → List Entry
first_keys t g n [] = []
first_keys t g n (b ∷ bs) =
    cond (eqb (held (count_in t g b)) 0) (first_keys t g n bs) (first_entry t g n b ∷ first_keys t g n bs)

-- two lists of entries are the same
unfoldable pub same_entries : List Entry → List Entry → Bool
same_entries [] [] = true
same_entries [] (e ∷ es) = false
same_entries (d ∷ ds) [] = false
same_entries (d ∷ ds) (e ∷ es) = eqb d.block e.block && is_same (order d.key e.key) && same_entries ds es
