-- The walk: 1 to 7, 13, 21 to 26; then from the root one index block a level, and the data block that it leads to.
-- Definitions only.
use Rattle.std.specs.Prelude.{ℕ, zero, suc, ◌+◌, cond, List, [], ◌∷◌, ◌++◌, eqb}
use Rattle.std.specs.Prelude.{Option, Some, None, Result, Ok, Err}
use Rattle.header.specs.Refusals.{header_refusals}
use Rattle.header.specs.declared.refusal.Refusal.{Refusal}
use Rattle.header.specs.declared.refusal.Refusal.TheVariants.{ChainRule, WrongCount, BadArgument, IndexTree}
use Rattle.header.specs.Numbers.{numbers_of}
use Rattle.header.specs.Answers.{header_first}
use Rattle.header.specs.declared.Header.{Header}
use Rattle.blocks.specs.Shape.{shape_of, has_block}
use Rattle.blocks.specs.Counts.{count_in}
use Rattle.blocks.specs.declared.Shape.{Shape}
use Rattle.table.specs.Records.{places_from}
use Rattle.lookup.specs.Found.{Lookup, lookup_of}
use Rattle.lookup.specs.Sought.{key_fits, first_with}
use Rattle.lookup.specs.declared.found.Found.{Found}
use Rattle.index.specs.Header.{index_refusals, index_of}
use Rattle.index.specs.Entries.{entries_in, below}
use Rattle.index.specs.declared.IndexHeader.{IndexHeader}
use Rattle.index.specs.declared.walking.Walked.{Walked}

-- what a walk found, after so many index blocks read
unfoldable pub found_after : ℕ → Option Found → Result Walked Refusal
found_after reads found = Ok (record { found = found; reads = reads })

-- in a data block the first record with the key; 9: a bad count
unfoldable pub by_count : List ℕ → Shape → List ℕ → ℕ → ℕ → Option ℕ → Result Walked Refusal
by_count t g key b reads (Some n) = found_after reads (first_with t g key (places_from b 0 n))
by_count t g key b reads None = Err WrongCount

-- 8: a data block outside the file
unfoldable pub in_data : List ℕ → Shape → List ℕ → ℕ → ℕ → Result Walked Refusal
in_data t g key b reads = cond (has_block g b) (by_count t g key b reads (count_in t g b)) (Err ChainRule)

-- on to the block that the key leads to, or the answer where it leads to none
unfoldable pub onward : Option ℕ → Result Walked Refusal → (ℕ → Result Walked Refusal) → Result Walked Refusal
onward (Some b) none down = down b
onward None none down = none

-- the walk from block b, after so many index blocks read: at level 0 it is a data block, at a higher level an index
-- block, whose last entry with a key at most the one sought names a block one level lower; with none the key is
-- absent. 27: an index block outside the file, with a bad count or no entry
unfoldable pub walk_from : List ℕ → Shape → List ℕ → Shape → List ℕ → ℕ → ℕ → ℕ → Result Walked Refusal
walk_from t g x gx key zero b reads = in_data t g key b reads
walk_from t g x gx key (suc level) b reads =
    cond (eqb (entries_in x gx b) 0) (Err IndexTree)
    (onward (below x gx key b (entries_in x gx b)) (found_after (reads + 1) None)
    (λ (next : ℕ). walk_from t g x gx key level next (reads + 1)))

-- the walk from the root
abbrev pub from_root : List ℕ → Shape → List ℕ → IndexHeader → List ℕ → Result Walked Refusal
from_root t g x i key = walk_from t g x i.shape key i.levels i.root 0

-- root 0 is absent; else the walk begins at the root
unfoldable pub walk_tree : List ℕ → Shape → List ℕ → IndexHeader → List ℕ → Result Walked Refusal
walk_tree t g x i key = cond (eqb i.root 0) (found_after 0 None) (from_root t g x i key)

-- the refusals on the way: 27, 8, 9
abbrev pub way_refusals : List Refusal
way_refusals = IndexTree ∷ ChainRule ∷ WrongCount ∷ []

-- 21 to 26 come before it
unfoldable pub walk_index : List ℕ → Header → List ℕ → Result IndexHeader Refusal → List ℕ → Result Walked Refusal
walk_index t h x (Ok i) key = walk_tree t (shape_of h) x i key
walk_index t h x (Err r) key = Err r

-- 13 comes before those: no key fields, or another key length
unfoldable pub walk_key : List ℕ → Header → List ℕ → List ℕ → Result Walked Refusal
walk_key t h x key = cond (key_fits h key) (walk_index t h x (index_of x h.key_length) key) (Err BadArgument)

-- what walking answers, for any bytes and any key: 1 to 7 come first
unfoldable pub walk_of : List ℕ → List ℕ → List ℕ → Result Walked Refusal
walk_of t x key = header_first t Err (walk_key t (numbers_of t) x key)

-- its refusals: 1 to 7, 13, those of the index's header, and those on the way
unfoldable pub walk_refusals : List Refusal
walk_refusals = header_refusals ++ (BadArgument ∷ index_refusals ++ way_refusals)

-- ---- the same in document 01's numbers: those of every lookup, and the index blocks read

-- what an answer found
unfoldable pub found_of : Result Walked Refusal → Result (Option Found) Refusal
found_of (Ok w) = Ok w.found
found_of (Err r) = Err r

-- the index blocks that it read: a refusal has its number only
unfoldable pub reads_of : Result Walked Refusal → ℕ
reads_of (Ok w) = w.reads
reads_of (Err r) = 0

unfoldable pub walked_numbers : Result Walked Refusal → Lookup × ℕ
walked_numbers w = (lookup_of (found_of w), reads_of w)

unfoldable pub walk_numbers : List ℕ → List ℕ → List ℕ → Lookup × ℕ
walk_numbers t x key = walked_numbers (walk_of t x key)
