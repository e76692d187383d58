-- The index rules as plain propositions, what an accepted index gives the crates above, and a walk's count.
-- Definitions only.
use Rattle.std.specs.Prelude.{ℕ, ◌+◌, ◌*◌, ◌≤◌, ◌≡◌, List, ◌⊎◌, length, Result, Ok, Err}
use Rattle.header.specs.Refusals.{number}
use Rattle.header.specs.declared.refusal.Refusal.{Refusal}
use Rattle.header.specs.Stored.{unit}
use Rattle.header.specs.Header.{least_version, most_version, most_units, block_head, most_blocks}
use Rattle.blocks.specs.Shape.{Sound}
use Rattle.lookup.specs.Found.{found_at}
use Rattle.index.specs.Stored.{stored_of}
use Rattle.index.specs.Header.{least_index, index_kind, entry_numbers, most_levels, index_of}
use Rattle.index.specs.Walk.{found_of, reads_of}
use Rattle.index.specs.declared.IndexHeader.{IndexHeader}
use Rattle.index.specs.declared.stored.Stored.{Stored}
use Rattle.index.specs.declared.walking.Walked.{Walked}

-- 25: a root that is a block of the file, and 1 to 8 levels
pub record Rooted (s : Stored) : Type 0 where
  pub root_least : 1 ≤ s.root
  pub root_most : s.root ≤ s.blocks
  pub levels_least : 1 ≤ s.levels
  pub levels_most : s.levels ≤ most_levels

-- 25: every number within its limit, for keys of n bytes
pub record IndexLimits (n : ℕ) (s : Stored) : Type 0 where
  pub size : s.record_size ≡ n + entry_numbers
  pub header_least : least_index ≤ s.header_size
  pub units_least : 1 ≤ s.units
  pub units_most : s.units ≤ most_units
  pub blocks_most : s.blocks ≤ most_blocks
  pub size_most : s.record_size + block_head ≤ s.units * unit
  pub root : ((s.root ≡ 0) × (s.levels ≡ 0)) ⊎ Rooted s

-- rules 21 to 26
pub record IndexRules (x : List ℕ) (n : ℕ) : Type 0 where
  -- 21
  pub long : least_index ≤ length x
  -- 22
  pub kind : (stored_of x).kind ≡ index_kind
  -- 23
  pub version_least : least_version ≤ (stored_of x).version
  pub version_most : (stored_of x).version ≤ most_version
  -- 25
  pub limits : IndexLimits n (stored_of x)
  -- 26
  pub whole : length x ≡ (stored_of x).header_size + (stored_of x).blocks * ((stored_of x).units * unit)

-- what an accepted index gives the crates above: bounds, and where its entries stand
pub record AcceptedIndex (x : List ℕ) (n : ℕ) (i : IndexHeader) : Type 0 where
  pub same : index_of x n ≡ Ok i
  pub sound : Sound x i.shape
  pub entry_size : i.shape.record_size ≡ n + entry_numbers
  pub levels_most : i.levels ≤ most_levels
  pub levels_least : (i.root ≡ 0 → ⊥) → 1 ≤ i.levels

-- what a walk's count is by its answer, where `reads` index blocks were read before and there are so many levels to
-- come: 0 with a refusal, whose number is not 0; one a level with a record; no more than that where the key is absent
pub record Reads (reads level : ℕ) (w : Result Walked Refusal) : Type 0 where
  pub refused : (r : Refusal) → w ≡ Err r → (1 ≤ number r) × (reads_of w ≡ 0)
  pub found : (b p : ℕ) → found_of w ≡ Ok (found_at b p) → reads_of w ≡ reads + level
  pub most : reads_of w ≤ reads + level
