-- The records of a good chain, a block at a time. Assumes nothing.
use Prim.Native.Nat.{ℕ}
use mathlib.Core.Path.{◌≡◌, ap, ◌∙◌}
use mathlib.Core.List.{List, [], ◌++◌}
use Rattle.blocks.specs.Counts.{count_in}
use Rattle.blocks.specs.declared.Shape.{Shape}
use Rattle.std.specs.Prelude.{Some}
use Rattle.chain.specs.Links.{next_of}
use Rattle.chain.specs.Rules.{GoodFrom}
use Rattle.chain.proofs.GoodChainLaws.{from_none, from_some}
use Rattle.table.specs.Records.{held, places_from, records_in}
use Rattle.scan.specs.Steps.{records_from}

module _ (t : List ℕ) (g : Shape) (b : ℕ) where
  -- at number 0 there is no record
  pub records_none : b ≡ 0 → GoodFrom t g b → records_from t g b ≡ []
  unfolding records_in
  records_none e c = ap (records_in t g) (from_none t g b e c)

  -- at another number there is a block: its records come first, then those of the others
  pub records_some : (b ≡ 0 → ⊥) → GoodFrom t g b → (n : ℕ) → count_in t g b ≡ Some n →
      records_from t g b ≡ places_from b 0 n ++ records_from t g (next_of t g b)
  unfolding records_in held
  records_some ne c n e = ap (records_in t g) (from_some t g b ne c) ∙ rw e
