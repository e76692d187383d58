-- `first_holding` meets its contract: from the present block on the first block that holds records is that of the
-- whole chain, of which each turn leaves fewer blocks. Assumes nothing.
use mathlib.Core.Path.{refl, sym, ◌∙◌}
use Rattle.blocks.proofs.ShapeLaws.{head_inside}
use Rattle.chain.proofs.GoodChainLaws.{from_block, from_fewer}
use Rattle.pair.proofs.HoldingLaws.{holding_none, holding_here, holding_later, holding_counted}
use Rattle.pair.proofs.tree.first_holding.Goals as goal

pub loop-block-init : goal.loop-block-init
loop-block-init c = (c.requires, refl)

-- at a block

pub count-requires : goal.count-requires
count-requires c =
    let f = c.args.file.now in
    let l = c.loop-block in
    let here = from_block f.bytes.now f.shape l.block c.loop-block-test.true l.invariant.0 in
    (here.low, here.high)

-- no count of the chain is bad
pub returns-in_default : goal.returns-in_default
returns-in_default c =
    let f = c.args.file.now in
    let l = c.loop-block in
    absurd (holding_counted f.bytes.now f.shape l.block c.loop-block-test.true l.invariant.0
    (sym c.count.ensures ∙ c.in_default.is))

pub returns-then-count-ne0 : goal.returns-then-count-ne0
returns-then-count-ne0 c =
    let f = c.args.file.now in
    let l = c.loop-block in
    sym (l.invariant.1 ∙ holding_here f.bytes.now f.shape l.block c.loop-block-test.true l.invariant.0 c.in-Some.count
    (sym c.count.ensures ∙ c.in-Some.is) c.if-count-ne0.true)

pub next_of-block-requires : goal.next_of-block-requires
next_of-block-requires c =
    let f = c.args.file.now in
    let l = c.loop-block in
    let here = from_block f.bytes.now f.shape l.block c.loop-block-test.true l.invariant.0 in
    (here.low, here.high, head_inside f.bytes.now f.shape f.sound l.block here.low here.high)

pub loop-block-smaller : goal.loop-block-smaller
loop-block-smaller c =
    let f = c.args.file.now in
    let l = c.loop-block in
    rw c.next_of-block.ensures (from_fewer f.bytes.now f.shape l.block c.loop-block-test.true l.invariant.0)

pub loop-block-preserved : goal.loop-block-preserved
loop-block-preserved c =
    let f = c.args.file.now in
    let l = c.loop-block in
    let here = from_block f.bytes.now f.shape l.block c.loop-block-test.true l.invariant.0 in
    rw c.next_of-block.ensures (
      here.onward,
      l.invariant.1
          ∙ holding_later f.bytes.now f.shape l.block c.loop-block-test.true l.invariant.0 c.in-Some.count
          (sym c.count.ensures ∙ c.in-Some.is) c.if-count-ne0.false,
    )

pub returns : goal.returns
returns c =
    let f = c.args.file.now in
    let l = c.loop-block in
    sym (l.invariant.1 ∙ holding_none f.bytes.now f.shape l.block c.loop-block-test.false l.invariant.0)
