-- The records of a table, one after another in chain order. Places count from 0. Definitions only.
use Rattle.std.specs.Prelude.{ℕ, zero, suc, ◌+◌, cond, ◌&&◌, List, [], ◌∷◌, ◌++◌, eqb, Option, Some, None}
use Rattle.header.specs.declared.Header.{Header}
use Rattle.blocks.specs.Shape.{shape_of}
use Rattle.blocks.specs.Counts.{count_in}
use Rattle.blocks.specs.declared.Shape.{Shape}
use Rattle.chain.specs.Links.{used_of}

-- where a record is: its block and its place in it
pub record Position : Type 0 where
  pub block : ℕ
  pub place : ℕ

-- how many records a count stands for: a bad one for none
unfoldable pub held : Option ℕ → ℕ
held (Some n) = n
held None = 0

-- n places of block b, from a place on
unfoldable pub places_from : ℕ → ℕ → ℕ → List Position
places_from b place zero = []
places_from b place (suc n) = record { block = b; place = place } ∷ places_from b (suc place) n

-- the records of some blocks that hold so many each, block by block
unfoldable pub records_held : List ℕ → List ℕ → List Position
records_held [] counts = []
records_held (b ∷ bs) [] = []
records_held (b ∷ bs) (n ∷ counts) = places_from b 0 n ++ records_held bs counts

-- the records of some blocks by their counts, block by block
unfoldable pub records_in : List ℕ → Shape → List ℕ → List Position
records_in t g [] = []
records_in t g (b ∷ bs) = places_from b 0 (held (count_in t g b)) ++ records_in t g bs

-- the records of a table: those of the used blocks, in chain order
abbrev pub records_of : List ℕ → Header → List Position
records_of t h = records_in t (shape_of h) (used_of t h)

-- how often a record stands in a list
unfoldable pub comes : Position → List Position → ℕ
comes p [] = 0
comes p (q ∷ qs) = cond (eqb q.block p.block && eqb q.place p.place) 1 0 + comes p qs
