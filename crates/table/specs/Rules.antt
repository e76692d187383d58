-- The table rules as plain propositions, and what an accepted table gives the crates above. Definitions only.
use Rattle.std.specs.Prelude.{ℕ, suc, ◌≤◌, ◌<◌, ◌≡◌, List, [], ◌++◌, length, get_or, replicate, drop, None, Err}
use Rattle.words.specs.Order.{order}
use Rattle.std.specs.declared.cmp.Ordering.TheVariants.{Less}
use Rattle.header.specs.declared.refusal.Refusal.{Refusal}
use Rattle.header.specs.declared.refusal.Refusal.TheVariants.{ChainRule, WrongCount, KeyOrder, ShortBuffer}
use Rattle.header.specs.Refusals.{Verdict, kept}
use Rattle.header.specs.Header.{header_refusal}
use Rattle.header.specs.Numbers.{numbers_of}
use Rattle.header.specs.Rules.{HeaderRules, Accepted}
use Rattle.header.specs.declared.Header.{Header}
use Rattle.blocks.specs.Shape.{shape_of}
use Rattle.blocks.specs.Counts.{count_in}
use Rattle.blocks.specs.Rules.{Holds}
use Rattle.blocks.specs.declared.Shape.{Shape}
use Rattle.chain.specs.Chain.{times}
use Rattle.chain.specs.Links.{next_of, links_of, used_of}
use Rattle.chain.specs.Marks.{unmarked, marks_of}
use Rattle.chain.specs.Rules.{Chain, Inside, ChainRules}
use Rattle.table.specs.Records.{Position, held, records_held, records_of}
use Rattle.table.specs.Counts.{sum, total}
use Rattle.table.specs.Keys.{keys_at, keys_of}

-- keys strictly ascend: each is less than the one after it
abbrev pub Ascending : List (List ℕ) → Type 0
Ascending keys = (i : ℕ) → suc i < length keys → order (get_or keys i []) (get_or keys (suc i) []) ≡ Less

-- a record that is counted in one of some blocks: its place is below that block's count
pub record Counted (t : List ℕ) (g : Shape) (bs : List ℕ) (p : Position) : Type 0 where
  pub index : ℕ
  pub inside : index < length bs
  pub block_there : p.block ≡ get_or bs index 0
  pub place_below : p.place < held (count_in t g (get_or bs index 0))

-- rules 1 to 10
pub record TableRules (t : List ℕ) : Type 0 where
  -- 1 to 7
  pub header : HeaderRules t (length t)
  -- 8: the used and the free blocks, and the rules that they keep
  pub used : List ℕ
  pub free : List ℕ
  pub chains : ChainRules (numbers_of t).blocks (links_of t (numbers_of t)) used free
  -- 9: how many records each used block holds, by a count that is good; they add up to the header's
  pub counts : List ℕ
  pub counts_length : length counts ≡ length used
  pub holding : (i : ℕ) → i < length used → Holds t (shape_of (numbers_of t)) (get_or used i 0) (get_or counts i 0)
  pub counts_sum : sum counts ≡ (numbers_of t).records
  -- 10: with key fields, the keys of all records in chain order strictly ascend
  pub keys : 1 ≤ (numbers_of t).key_fields →
      Ascending (keys_at t (shape_of (numbers_of t)) (numbers_of t).key_length (records_held used counts))

-- what an accepted table gives the crates above
pub record AcceptedTable (t : List ℕ) (h : Header) : Type 0 where
  pub header : Accepted t h
  -- the used blocks are the chain from the first block; it ends
  pub chain : Chain (next_of t (shape_of h)) h.first (used_of t h)
  -- they are blocks of the file, each once, and so no more than it has
  pub inside : Inside h.blocks (used_of t h)
  pub once : (b : ℕ) → times b (used_of t h) ≤ 1
  pub few_blocks : length (used_of t h) ≤ h.blocks
  -- their counts are good and add up to the header's, which is the length of the list of records
  pub counts : (i : ℕ) → i < length (used_of t h) → count_in t (shape_of h) (get_or (used_of t h) i 0) ≡ None → ⊥
  pub sum : total t (shape_of h) (used_of t h) ≡ h.records
  pub records : length (records_of t h) ≡ h.records
  -- with key fields, of any two records the earlier has the lesser key
  pub ascending : 1 ≤ h.key_fields → (i j : ℕ) → i < j → j < length (keys_of t h) →
      order (get_or (keys_of t h) i []) (get_or (keys_of t h) j []) ≡ Less

-- ---- the mark buffer m by the answer

-- the marks of both chains; behind them the buffer stays
abbrev pub noted : List ℕ → List ℕ → List ℕ
noted t m = marks_of (numbers_of t).blocks (used_of t (numbers_of t)) ++ drop (numbers_of t).blocks m

-- a verdict, and what the buffer holds then
pub data MarksLeft (t m : List ℕ) : Verdict → List ℕ → Type 0 where
  -- the header's refusal (1 to 7), and 14: unchanged
  by_header : {r : Refusal} → header_refusal t ≡ Err r → MarksLeft t m (Err r) m
  by_buffer : MarksLeft t m (Err ShortBuffer) m
  -- 8: the mark of every block is 0
  by_chains : MarksLeft t m (Err ChainRule) (replicate (numbers_of t).blocks unmarked ++ drop (numbers_of t).blocks m)
  -- 9, 10 and acceptance: 1 for a used block and 2 for a free one
  by_counts : MarksLeft t m (Err WrongCount) (noted t m)
  by_keys : MarksLeft t m (Err KeyOrder) (noted t m)
  accepting : MarksLeft t m kept (noted t m)
