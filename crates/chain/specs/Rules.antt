-- The chain rules as plain propositions (refusal 8), and what a good chain gives the crates above. Definitions only.
use Rattle.std.specs.Prelude.{ℕ, suc, ◌+◌, ◌≤◌, ◌<◌, ◌≡◌, List, [], ◌∷◌, length, get_or, None}
use Rattle.blocks.specs.Counts.{count_in}
use Rattle.blocks.specs.declared.Shape.{Shape}
use Rattle.chain.specs.Chain.{Links, times, last_of}
use Rattle.chain.specs.Links.{next_of, blocks_from}

-- the chain that starts at a number: 0 ends it, any other is a block and leads to its next
pub data Chain (next : ℕ → ℕ) : ℕ → List ℕ → Type 0 where
  ends : Chain next 0 []
  leads : {b : ℕ} {bs : List ℕ} → 1 ≤ b → Chain next (next b) bs → Chain next b (b ∷ bs)

-- every number of a list is one of n blocks
abbrev pub Inside : ℕ → List ℕ → Type 0
Inside n bs = (i : ℕ) → i < length bs → (1 ≤ get_or bs i 0) × (get_or bs i 0 ≤ n)

-- the links of n blocks make these two chains, and they keep the rules
pub record ChainRules (n : ℕ) (l : Links) (used free : List ℕ) : Type 0 where
  -- the used chain starts at the first block, the free chain at the first free one; both end at next 0
  pub used_chain : Chain l.next l.first used
  pub free_chain : Chain l.next l.free free
  -- every number is a block of the file
  pub used_inside : Inside n used
  pub free_inside : Inside n free
  -- every block is in exactly one chain, once
  pub once : (b : ℕ) → 1 ≤ b → b ≤ n → times b used + times b free ≡ 1
  -- the first used block has previous 0, every other one names its predecessor
  pub first_previous : 1 ≤ length used → l.previous (get_or used 0 0) ≡ 0
  pub predecessors : (i : ℕ) → suc i < length used → l.previous (get_or used (suc i) 0) ≡ get_or used i 0
  -- the last one is the last block; of an empty chain it is 0
  pub ends_at : last_of 0 used ≡ l.last

-- the blocks of a chain from number b on: it ends, they are in the file, no more than it has, and their counts are
-- good. The used blocks of an accepted table are so, and those that are left of them from any one on
pub record GoodChain (t : List ℕ) (g : Shape) (b : ℕ) (bs : List ℕ) : Type 0 where
  pub chain : Chain (next_of t g) b bs
  pub inside : Inside g.blocks bs
  pub few : length bs ≤ g.blocks
  pub counts : (i : ℕ) → i < length bs → count_in t g (get_or bs i 0) ≡ None → ⊥

-- the same of what following next gives
abbrev pub GoodFrom : List ℕ → Shape → ℕ → Type 0
GoodFrom t g b = GoodChain t g b (blocks_from t g b)
