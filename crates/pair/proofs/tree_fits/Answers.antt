-- `tree_fits` meets its contract: root 0 by the number of records, any other root by going down the tree to the end
-- of the used chain. Assumes nothing.
use mathlib.Core.Path.{sym, ap, ◌∙◌}
use Prim.Native.Nat.{ℕ}
use lib.Dec.{eqb}
use Rattle.pair.proofs.TreeLaws.{tree_empty, begins, few, short, tree_unfit, tree_next, next_good}
use Rattle.pair.proofs.tree_fits.Goals as goal

pub returns-then-i-eq0 : goal.returns-then-i-eq0
returns-then-i-eq0 c =
    let t = c.args.table.now in
    sym (tree_empty t.bytes.now t.header c.args.index.now c.args.i c.requires c.if-i-eq0.true)

-- where the root is not 0

pub block_fits-read-requires : goal.block_fits-read-requires
block_fits-read-requires c =
    let t = c.args.table.now in
    let e = c.of.ensures.shape in
    let good = begins t.bytes.now t.header c.args.index.now c.args.i c.requires _ e in (
      record {
        chain = rw c.of.ensures.bytes good;
        few = few t.bytes.now t.header c.args.index.now c.args.i c.requires _ e;
        short = short t.bytes.now t.header c.args.index.now c.args.i c.requires _ e;
        size = c.requires.index.entry_size;
      },
      c.requires.index.levels_least c.if-i-eq0.false,
    )

pub returns-in_default : goal.returns-in_default
returns-in_default c =
    let t = c.args.table.now in
    let fit = rw c.of.ensures.bytes at c.block_fits-read.ensures.fit_value in
    sym (tree_unfit t.bytes.now t.header c.args.index.now c.args.i c.requires _ c.of.ensures.shape c.if-i-eq0.false
    (sym fit ∙ c.in_default.is))

pub first_holding-requires : goal.first_holding-requires
first_holding-requires c =
    let t = c.args.table.now in
    let fit = rw c.of.ensures.bytes at c.block_fits-read.ensures.fit_value in
    rw c.of.ensures.bytes
    (next_good t.bytes.now t.header c.args.index.now c.args.i c.requires _ c.of.ensures.shape c.in-Some.rest
    (sym fit ∙ c.in-Some.is))

pub returns : goal.returns
returns c =
    let t = c.args.table.now in
    let fit = rw c.of.ensures.bytes at c.block_fits-read.ensures.fit_value in
    let first = rw c.of.ensures.bytes at c.first_holding.ensures in
    ap (λ (b : ℕ). eqb b 0) first
    ∙ sym (tree_next t.bytes.now t.header c.args.index.now c.args.i c.requires _ c.of.ensures.shape c.if-i-eq0.false
    c.in-Some.rest (sym fit ∙ c.in-Some.is))
