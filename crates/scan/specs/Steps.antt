-- What the private functions ask and answer: no rule is stated here. Definitions only.
use Rattle.std.specs.Prelude.{ℕ, ◌≤◌, List, length, Option}
use Rattle.blocks.specs.declared.Shape.{Shape}
use Rattle.chain.specs.Links.{blocks_from}
use Rattle.chain.specs.Rules.{GoodFrom}
use Rattle.table.specs.Records.{Position, records_in}
use Rattle.lookup.specs.Sought.{first_with}
use Rattle.lookup.specs.declared.found.Found.{Found}

-- the records of the blocks from number b on
abbrev pub records_from : List ℕ → Shape → ℕ → List Position
records_from t g b = records_in t g (blocks_from t g b)

-- the first of them with the key sought
abbrev pub found_from : List ℕ → Shape → List ℕ → ℕ → Option Found
found_from t g key b = first_with t g key (records_from t g b)

-- what looking through a chain asks: it ends, its counts are good, and a key is no longer than a record
pub record Searchable (t : List ℕ) (g : Shape) (b : ℕ) (key : List ℕ) : Type 0 where
  pub short : length key ≤ g.record_size
  pub chain : GoodFrom t g b
