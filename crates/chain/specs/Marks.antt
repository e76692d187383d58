-- The mark buffer, a term of document 01: a lent byte for each block, in which a check notes the chain that has it.
-- Definitions only.
use Rattle.std.specs.Prelude.{ℕ, zero, suc, ◌-◌, Bool, cond, not, ◌&&◌, List, [], ◌∷◌, ◌++◌, eqb, length, get_or}
use Rattle.words.specs.Each.{each}
use Rattle.blocks.specs.Shape.{in_file}
use Rattle.chain.specs.Chain.{times}

-- a block that no chain has so far
abbrev pub unmarked : ℕ
unmarked = 0

abbrev pub used_mark : ℕ
used_mark = 1

abbrev pub free_mark : ℕ
free_mark = 2

-- block b's mark: 1 where it is used, else 2. Where the chain rules are kept a block that is not used is free
abbrev pub mark_of : List ℕ → ℕ → ℕ
mark_of used b = cond (eqb (times b used) 0) free_mark used_mark

-- the marks of n blocks: byte b - 1 is block b's
unfoldable pub marks_of : ℕ → List ℕ → List ℕ
marks_of zero used = []
marks_of (suc n) used = marks_of n used ++ (mark_of used (suc n) ∷ [])

-- block b is in the file, and no chain has it so far; there are as many blocks as marks
unfoldable pub is_unmarked : List ℕ → ℕ → Bool
is_unmarked m b = in_file (length m) b && eqb (get_or m (b - 1) 0) unmarked

-- the block of mark i is in a chain
abbrev pub has_mark : List ℕ → ℕ → Bool
has_mark m i = not (eqb (get_or m i 0) unmarked)

-- every block is
unfoldable pub all_marked : List ℕ → Bool
all_marked m = each (has_mark m) (length m)
