-- The pair rules as plain propositions, and what demand 3 asks of the two lookups. Definitions only.
use Rattle.std.specs.Prelude.{ℕ, zero, suc, ◌≤◌, ◌<◌, ◌≡◌, List, [], ◌∷◌, length, Result}
use Rattle.header.specs.Refusals.{kept}
use Rattle.header.specs.Numbers.{numbers_of}
use Rattle.header.specs.declared.Header.{Header}
use Rattle.header.specs.declared.refusal.Refusal.{Refusal}
use Rattle.blocks.specs.Shape.{shape_of}
use Rattle.blocks.specs.Rules.{BlockHolds}
use Rattle.blocks.specs.declared.Shape.{Shape}
use Rattle.table.specs.Counts.{sum}
use Rattle.table.specs.Rules.{TableRules}
use Rattle.lookup.specs.Found.{Lookup, lookup_of}
use Rattle.lookup.specs.Rules.{Finds}
use Rattle.scan.specs.Scan.{scan_of, scan_lookup}
use Rattle.index.specs.Header.{index_numbers}
use Rattle.index.specs.Entries.{entry_key}
use Rattle.index.specs.Rules.{IndexRules}
use Rattle.index.specs.Walk.{walk_of, found_of}
use Rattle.index.specs.declared.IndexHeader.{IndexHeader}
use Rattle.index.specs.declared.walking.Walked.{Walked}
use Rattle.pair.specs.Tree.{Entry, entry_at, joined, root_entry, first_entry}
use Rattle.pair.specs.Pair.{pair_answer}

-- ---- 27: the tree fits

-- an entry above level 1 has the key of the first entry in the block it names. The level is that of the block named, 0
-- for a data block
abbrev pub KeyRight : List ℕ → Shape → ℕ → ℕ → Entry → Type 0
KeyRight x g n zero e = Unit {0}
KeyRight x g n (suc level) e = e.key ≡ entry_key x g n e.block 0

-- an index block that is in the file, whose count is good, and that has entries, each of which keeps a rule
pub record GoodBlock (x : List ℕ) (g : Shape) (n b : ℕ) (Rule : Entry → Type 0) : Type 0 where
  pub count : ℕ
  pub held : BlockHolds x g b count
  pub some : 1 ≤ count
  pub each_entry : (i : ℕ) → i < count → Rule (entry_at x g n b i)

-- a block fits at a level; at level 0 it is a data block, which is judged with the entry that names it
abbrev pub Fits : List ℕ → Shape → ℕ → ℕ → ℕ → Type 0
Fits x g n zero b = Unit {0}
Fits x g n (suc level) b = GoodBlock x g n b (λ (e : Entry). Fits x g n level e.block × KeyRight x g n level e)

-- the level 1 entries that an entry leads to, read left to right, by the level of the block that it names: at level 0
-- that is a data block, and the entry is one itself; above, they are those of the block's entries, one after another
pub data Leaves (x : List ℕ) (g : Shape) (n : ℕ) : ℕ → Entry → List Entry → Type 0 where
  itself : {e : Entry} → Leaves x g n 0 e (e ∷ [])
  below : {level count : ℕ} {e : Entry} (lists : ℕ → List Entry) → BlockHolds x g e.block count →
      ((i : ℕ) → i < count → Leaves x g n level (entry_at x g n e.block i) (lists i)) →
      Leaves x g n (suc level) e (joined lists count)

-- what they are to be: of some blocks of a table, with their counts, those that hold records, in order, each with its
-- first key
unfoldable pub first_entries : List ℕ → Shape → ℕ → List ℕ → List ℕ → List Entry
first_entries t g n [] counts = []
first_entries t g n (b ∷ bs) [] = []
first_entries t g n (b ∷ bs) (zero ∷ counts) = first_entries t g n bs counts
first_entries t g n (b ∷ bs) (suc more ∷ counts) = first_entry t g n b ∷ first_entries t g n bs counts

-- a tree below a root that is not 0, over a table with these used blocks and their counts
pub record RootedTree (t : List ℕ) (h : Header) (used counts x : List ℕ) (i : IndexHeader) : Type 0 where
  -- the root's block fits
  pub fitting : Fits x i.shape h.key_length i.levels i.root
  -- the level 1 entries name the used blocks that hold records, in chain order, each with that block's first key
  pub leaves_right : Leaves x i.shape h.key_length i.levels (root_entry i.root)
      (first_entries t (shape_of h) h.key_length used counts)

-- the tree of an index over a table
pub record TreeRules (t : List ℕ) (h : Header) (used counts x : List ℕ) (i : IndexHeader) : Type 0 where
  -- root 0 exactly when there are no records
  pub empty : i.root ≡ 0 → sum counts ≡ 0
  pub no_records : sum counts ≡ 0 → i.root ≡ 0
  pub rooted : (i.root ≡ 0 → ⊥) → RootedTree t h used counts x i

-- the rules of a pair
pub record PairRules (t x : List ℕ) : Type 0 where
  -- 1 to 10
  pub table : TableRules t
  -- 13: there are key fields
  pub keyed : 1 ≤ (numbers_of t).key_fields
  -- 21 to 26
  pub index : IndexRules x (numbers_of t).key_length
  -- 27
  pub tree : TreeRules t (numbers_of t) table.used table.counts x (index_numbers x)

-- ---- demand 3

-- what a walk and a scan for a key come to, by their numbers: they are the same, neither refuses, and they find what
-- the records say
pub record Agreement (t : List ℕ) (h : Header) (key : List ℕ) (walked scanned : Lookup) : Type 0 where
  pub same : walked ≡ scanned
  pub finds : Finds t h key scanned

-- what looking a key up in an accepted pair answers: both ways give it, whatever the key's length, with the index
-- blocks that the walk reads. A key of the table's key length is found or absent as the records say
pub record BothWays (t x key : List ℕ) (room : ℕ) (r : Result Walked Refusal) : Type 0 where
  pub walked : walk_of t x key ≡ r
  pub scanned : scan_of t key room ≡ found_of r
  pub agreed : length key ≡ (numbers_of t).key_length →
      Agreement t (numbers_of t) key (lookup_of (found_of r)) (scan_lookup t key room)

-- the answer r where the pair is accepted with the mark buffer m
abbrev pub Agreeing : List ℕ → List ℕ → List ℕ → List ℕ → Result Walked Refusal → Type 0
Agreeing t x key m r = pair_answer t x (length m) ≡ kept → BothWays t x key (length m) r
