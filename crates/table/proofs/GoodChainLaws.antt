-- The used blocks of an accepted table are a good chain. Assumes nothing.
use Prim.Native.Nat.{ℕ}
use mathlib.Core.List.{List}
use Rattle.header.specs.declared.Header.{Header}
use Rattle.blocks.specs.Shape.{shape_of}
use Rattle.chain.specs.Links.{used_of}
use Rattle.chain.specs.Rules.{GoodChain}
use Rattle.table.specs.Rules.{AcceptedTable}

pub good_begins : (t : List ℕ) (h : Header) → AcceptedTable t h → GoodChain t (shape_of h) h.first (used_of t h)
unfolding shape_of
good_begins t h a = record { chain = a.chain; inside = a.inside; few = a.few_blocks; counts = a.counts }
