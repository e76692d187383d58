-- The key sought: whether it fits a table (refusal 13), and the first record that has it. Definitions only.
use Rattle.std.specs.Prelude.{ℕ, Bool, cond, ◌&&◌, List, [], ◌∷◌, eqb, leb, length, Option, None}
use Rattle.words.specs.Order.{is_same, order}
use Rattle.header.specs.declared.Header.{Header}
use Rattle.blocks.specs.declared.Shape.{Shape}
use Rattle.table.specs.Records.{Position}
use Rattle.table.specs.Keys.{key_at}
use Rattle.lookup.specs.Found.{found_at}
use Rattle.lookup.specs.declared.found.Found.{Found}

-- 13: the table has key fields, and the key sought has the key length
unfoldable pub key_fits : Header → List ℕ → Bool
key_fits h key = leb 1 h.key_fields && eqb (length key) h.key_length

-- a record's key is the one sought
abbrev pub is_sought : List ℕ → Shape → List ℕ → Position → Bool
is_sought t g key p = is_same (order (key_at t g (length key) p) key)

-- the first of some records whose key is the one sought
unfoldable pub first_with : List ℕ → Shape → List ℕ → List Position → Option Found
first_with t g key [] = None
first_with t g key (p ∷ ps) = cond (is_sought t g key p) (found_at p.block p.place) (first_with t g key ps)
