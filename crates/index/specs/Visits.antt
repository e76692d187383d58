-- The walk as plain propositions: the index blocks that it reads, from the root down, the entry that it takes in each,
-- and the record that it finds in the data block. Definitions only.
use Rattle.std.specs.Prelude.{ℕ, suc, ◌≤◌, ◌<◌, ◌≡◌, List, [], ◌∷◌, length, Option, None}
use Rattle.words.specs.Order.{order}
use Rattle.std.specs.declared.cmp.Ordering.TheVariants.{Greater}
use Rattle.header.specs.declared.refusal.Refusal.{Refusal}
use Rattle.header.specs.declared.refusal.Refusal.TheVariants.{ChainRule, WrongCount, IndexTree}
use Rattle.header.specs.Numbers.{numbers_of}
use Rattle.header.specs.Rules.{HeaderRules}
use Rattle.blocks.specs.Shape.{shape_of}
use Rattle.blocks.specs.Rules.{Holds, BlockHolds}
use Rattle.blocks.specs.declared.Shape.{Shape}
use Rattle.table.specs.Keys.{key_at}
use Rattle.lookup.specs.Found.{found_at}
use Rattle.lookup.specs.declared.found.Found.{Found}
use Rattle.index.specs.Header.{index_numbers}
use Rattle.index.specs.Rules.{IndexRules}
use Rattle.index.specs.Entries.{entry_key, entry_block}
use Rattle.index.specs.declared.IndexHeader.{IndexHeader}

-- ---- one block

-- of the n entries of index block b, entry i is the last whose key is at most the one sought: its key is not above
-- that, and the key of every later entry is
pub record LastEntry (x : List ℕ) (g : Shape) (key : List ℕ) (b n i : ℕ) : Type 0 where
  pub inside : i < n
  pub at_most : order (entry_key x g (length key) b i) key ≡ Greater → ⊥
  pub later_above : (j : ℕ) → i < j → j < n → order (entry_key x g (length key) b j) key ≡ Greater

-- no entry is such: the key of each of the n entries of index block b is above the one sought
abbrev pub NoEntry : List ℕ → Shape → List ℕ → ℕ → ℕ → Type 0
NoEntry x g key b n = (j : ℕ) → j < n → order (entry_key x g (length key) b j) key ≡ Greater

-- of the n records of data block b, the one at place p is the first with the key sought
pub record FirstRecord (t : List ℕ) (g : Shape) (key : List ℕ) (b n p : ℕ) : Type 0 where
  pub inside : p < n
  pub same : key_at t g (length key) (record { block = b; place = p }) ≡ key
  pub earlier_other : (j : ℕ) → j < p → key_at t g (length key) (record { block = b; place = j }) ≡ key → ⊥

-- no record is such: none of the n records of data block b has the key sought
abbrev pub NoRecord : List ℕ → Shape → List ℕ → ℕ → ℕ → Type 0
NoRecord t g key b n = (j : ℕ) → j < n → key_at t g (length key) (record { block = b; place = j }) ≡ key → ⊥

-- ---- from a block down; t and g are the table and its shape, x and gx the index and its own

module _ (t : List ℕ) (g : Shape) (x : List ℕ) (gx : Shape) (key : List ℕ) where
  -- from block b at a level on, the index blocks that are read, and what is found: at level 0 b is a data block, where
  -- the first record with the key is the answer, else absent; at a higher level it is an index block with entries, and
  -- the last whose key is at most the one sought names the block one level lower; with none, absent
  pub data Visits : (level b : ℕ) → List ℕ → Option Found → Type 0 where
    record_there : {b n p : ℕ} → BlockHolds t g b n → FirstRecord t g key b n p → Visits 0 b [] (found_at b p)
    record_missing : {b n : ℕ} → BlockHolds t g b n → NoRecord t g key b n → Visits 0 b [] None
    entry_there : {level b n i : ℕ} {visited : List ℕ} {found : Option Found} → BlockHolds x gx b n
        → LastEntry x gx key b n i → Visits level (entry_block x gx (length key) b i) visited found
        → Visits (suc level) b (b ∷ visited) found
    entry_missing : {level b n : ℕ} → BlockHolds x gx b n → 1 ≤ n → NoEntry x gx key b n →
        Visits (suc level) b (b ∷ []) None

  -- from block b at a level on, a block is met that is refused, and how. 8: a data block outside the file; 9: one
  -- with a bad count; 27: an index block outside the file, with a bad count or no entry
  pub data Meets : (level b : ℕ) → Refusal → Type 0 where
    outside : {b : ℕ} → (1 ≤ b → b ≤ g.blocks → ⊥) → Meets 0 b ChainRule
    bad_count : {b : ℕ} → 1 ≤ b → b ≤ g.blocks → ((n : ℕ) → Holds t g b n → ⊥) → Meets 0 b WrongCount
    bad_index : {level b : ℕ} → ((n : ℕ) → BlockHolds x gx b n → 1 ≤ n → ⊥) → Meets (suc level) b IndexTree
    lower : {level b n i : ℕ} {refusal : Refusal} → BlockHolds x gx b n → LastEntry x gx key b n i
        → Meets level (entry_block x gx (length key) b i) refusal → Meets (suc level) b refusal

-- ---- the whole

-- the rules that come before the walk are kept
pub record WalkBegins (t x key : List ℕ) : Type 0 where
  -- 1 to 7
  pub table : HeaderRules t (length t)
  -- 13
  pub keyed : 1 ≤ (numbers_of t).key_fields
  pub long : length key ≡ (numbers_of t).key_length
  -- 21 to 26
  pub index : IndexRules x (numbers_of t).key_length

module _ (t : List ℕ) (g : Shape) (x : List ℕ) (i : IndexHeader) (key : List ℕ) where
  -- root 0 is absent, and no index block is read; else the walk is from the root, with the header's levels
  pub data RootVisits : List ℕ → Option Found → Type 0 where
    rootless : i.root ≡ 0 → RootVisits [] None
    rooted : {visited : List ℕ} {found : Option Found} → (i.root ≡ 0 → ⊥)
        → Visits t g x i.shape key i.levels i.root visited found → RootVisits visited found

  -- from a root that is not 0, a block is met that is refused
  pub record RootMeets (refusal : Refusal) : Type 0 where
    pub not_rootless : i.root ≡ 0 → ⊥
    pub meets : Meets t g x i.shape key i.levels i.root refusal

-- a walk that is not refused: the index blocks that it reads, from the root down, and what it finds
pub record WalkRules (t x key visited : List ℕ) (found : Option Found) : Type 0 where
  pub begins : WalkBegins t x key
  pub visits : RootVisits t (shape_of (numbers_of t)) x (index_numbers x) key visited found

-- a walk that is refused on its way: 8, 9 or 27
pub record WalkMeets (t x key : List ℕ) (refusal : Refusal) : Type 0 where
  pub begins : WalkBegins t x key
  pub meets : RootMeets t (shape_of (numbers_of t)) x (index_numbers x) key refusal
