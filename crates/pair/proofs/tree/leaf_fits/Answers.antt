-- `leaf_fits` meets its contract: the entry is the one expected where it names the next block that holds records,
-- with its first key. Assumes nothing.
use native.Mathlib.Omega.{arith}
use Rattle.blocks.proofs.ShapeLaws.{head_inside}
use Rattle.pair.proofs.EntryLaws.{leaf_end, leaf_holding, first_inside, leaf_other, leaf_unlike, leaf_follows}
use Rattle.pair.proofs.tree.leaf_fits.Goals as goal

pub first_holding-block-requires : goal.first_holding-block-requires
first_holding-block-requires c = c.requires.0.chain

pub returns-then-block-eq0 : goal.returns-then-block-eq0
returns-then-block-eq0 c =
    leaf_end c.requires.0 c.args.at c.args.named _ c.first_holding-block.ensures c.if-block-eq0.true

pub returns-then-named-block : goal.returns-then-named-block
returns-then-named-block c =
    leaf_other c.requires.0 c.args.at _ _ c.first_holding-block.ensures c.if-block-eq0.false c.if-named-block.true

pub record_at-first-requires : goal.record_at-first-requires
record_at-first-requires c =
    let w = leaf_holding c.requires.0 c.args.at c.args.named _ c.first_holding-block.ensures c.if-block-eq0.false in
    (w.low, w.high, omega arith)

pub compare-requires : goal.compare-requires
compare-requires c =
    let w = first_inside c.requires.0 c.args.at c.args.named _ c.first_holding-block.ensures c.if-block-eq0.false in
    (c.requires.1, omega (arith, c.record_at-first.ensures, w))

pub returns-then-not-is_eq : goal.returns-then-not-is_eq
returns-then-not-is_eq c =
    leaf_unlike c.requires.0 c.args.at c.args.named _ c.first_holding-block.ensures c.if-block-eq0.false
    c.if-named-block.false c.record_at-first.ensures c.compare.ensures c.is_eq.ensures c.if-not-is_eq.true

pub next_of-requires : goal.next_of-requires
next_of-requires c =
    let w = leaf_holding c.requires.0 c.args.at c.args.named _ c.first_holding-block.ensures c.if-block-eq0.false in
    let f = c.args.pair.now.table in
    (w.low, w.high, head_inside f.bytes.now f.shape f.sound c.first_holding-block.result w.low w.high)

pub returns : goal.returns
returns c =
    leaf_follows c.requires.0 c.args.at c.args.named _ c.first_holding-block.ensures c.if-block-eq0.false
    c.if-named-block.false c.record_at-first.ensures c.compare.ensures c.is_eq.ensures c.if-not-is_eq.false
    _ c.next_of.ensures
