-- The rule of a tree by what going down it comes to: root 0 by the number of records, any other root by where the
-- used chain is then. Assumes nothing.
use native.Mathlib.Omega.{arith}
use Prim.Native.Nat.{ℕ, ◌≤◌, ◌<◌}
use mathlib.Core.Path.{◌≡◌, sym, ◌∙◌}
use mathlib.Core.Bool.{false}
use mathlib.Core.List.{List}
use lib.Dec.{eqb}
use borrow.Author.Tests.{eq-eqb, ne_eqb}
use Rattle.std.specs.Prelude.{Option, Some, None}
use Rattle.header.specs.declared.Header.{Header}
use Rattle.blocks.specs.Shape.{shape_of}
use Rattle.blocks.specs.declared.Shape.{Shape}
use Rattle.chain.specs.Rules.{GoodFrom}
use Rattle.table.proofs.GoodChainLaws.{good_begins}
use Rattle.index.specs.declared.IndexHeader.{IndexHeader}
use Rattle.pair.specs.Pair.{empty_fits, root_fits, tree_fits}
use Rattle.pair.specs.Steps.{Shapes, holding_from, block_from, Paired}
use Rattle.pair.proofs.FollowLaws.{is_end, block_good, tree_ends}

module _ (t : List ℕ) (h : Header) (x : List ℕ) (i : IndexHeader) (p : Paired t h x i) where
  -- root 0
  pub tree_empty : i.root ≡ 0 → tree_fits t h x i ≡ eqb h.records 0
  unfolding tree_fits empty_fits
  tree_empty z = rw (eq-eqb i.root 0 z, p.table.records)

  -- another root; g is the table's shape as it was read
  module _ (g : Shape) (e : g ≡ shape_of h) where
    abbrev s : Shapes
    s = record { table = g; index = i.shape; key_length = h.key_length }

    -- the chain of the table, and what its sizes are bounded by
    pub begins : GoodFrom t g h.first
    unfolding shape_of
    begins = rw e (good_begins t h p.table)

    pub few : g.blocks < 65536
    unfolding shape_of
    few = rw e (omega (arith, p.table.header.blocks_most))

    pub short : h.key_length ≤ g.record_size
    unfolding shape_of
    short = rw e p.table.header.key_most

    abbrev down : Option ℕ
    down = block_from t x s i.levels i.root h.first

    tree_by : (i.root ≡ 0 → ⊥) → tree_fits t h x i ≡ is_end t g h.key_length down
    unfolding tree_fits root_fits shape_of
    tree_by ne = rw (ne_eqb i.root 0 ne) (sym (tree_ends t x s i.levels i.root h.first begins ∙ rw e))

    pub tree_unfit : (i.root ≡ 0 → ⊥) → down ≡ None → tree_fits t h x i ≡ false
    tree_unfit ne u = tree_by ne ∙ rw u

    pub tree_next : (i.root ≡ 0 → ⊥) → (d : ℕ) → down ≡ Some d → tree_fits t h x i ≡ eqb (holding_from t g d) 0
    tree_next ne d u = tree_by ne ∙ rw u

    pub next_good : (d : ℕ) → down ≡ Some d → GoodFrom t g d
    next_good d u = block_good t x s i.levels i.root h.first d begins u
