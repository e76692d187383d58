-- `find_from` meets its contract: from the present block on the first record with the key is that of the whole chain,
-- of which each turn leaves fewer blocks. Assumes nothing.
use Rattle.std.specs.Prelude.{Some, None, Ok}
use Rattle.std.specs.Option.{is_some}
use mathlib.Core.Path.{◌≡◌, refl, sym, ap, ◌∙◌}
use mathlib.Core.List.{◌++◌}
use native.Mathlib.Omega.{arith}
use lib.ListN.{length}
use borrow.Author.Rules.{rules}
use Rattle.blocks.specs.Counts.{count_in}
use Rattle.blocks.proofs.CountLaws.{run_inside}
use Rattle.blocks.proofs.ShapeLaws.{head_inside}
use Rattle.chain.specs.Links.{next_of, blocks_from}
use Rattle.chain.proofs.GoodChainLaws.{Block, from_block, from_fewer}
use Rattle.table.specs.Records.{places_from}
use Rattle.lookup.specs.Sought.{first_with}
use Rattle.lookup.proofs.FirstLaws.{first_hit, first_miss}
use Rattle.scan.specs.Steps.{records_from}
use Rattle.scan.proofs.ChainLaws.{records_none, records_some}
use Rattle.scan.proofs.find_from.Goals as goal
use Rattle.scan.proofs.find_from.Goals.{In_ok-count, In-loop-block}

pub loop-block-init : goal.loop-block-init
loop-block-init c = (c.requires.chain, refl)

-- at a block

here : (c : In-loop-block) → let f = c.args.file.now in let b = c.loop-block.block in
    Block f.bytes.now f.shape b (blocks_from f.bytes.now f.shape (next_of f.bytes.now f.shape b))
here c =
    let f = c.args.file.now in
    from_block f.bytes.now f.shape c.loop-block.block c.loop-block-test.true c.loop-block.invariant.0

pub count-requires : goal.count-requires
count-requires c = let b = here c in (b.low, b.high)

-- no count of the chain is bad
pub returns-in_err-count : goal.returns-in_err-count
returns-in_err-count c =
    let bad : c.count.result ≡ None = grind arith in
    let good = (here (goal.at.returns-in_err-count c).In-loop-block).counted in
    let none = sym c.count.ensures ∙ bad in
    cc

-- where the count is told

counted : (c : In_ok-count) → let f = c.args.file.now in
    count_in f.bytes.now f.shape c.loop-block.block ≡ Some c.in_ok-count.count
counted c = sym c.count.ensures ∙ grind arith

-- the block's records come first
records : (c : In_ok-count) → let f = c.args.file.now in let b = c.loop-block.block in
    records_from f.bytes.now f.shape b
    ≡ places_from b 0 c.in_ok-count.count ++ records_from f.bytes.now f.shape (next_of f.bytes.now f.shape b)
records c =
    let f = c.args.file.now in
    records_some f.bytes.now f.shape c.loop-block.block c.loop-block-test.true c.loop-block.invariant.0
    c.in_ok-count.count (counted c)

pub find_in_block-found-requires : goal.find_in_block-found-requires
find_in_block-found-requires c =
    let f = c.args.file.now in
    let at = goal.at.find_in_block-found-requires c in
    let b = here at.In-loop-block in
    run_inside f.bytes.now f.shape f.sound c.loop-block.block b.low b.high c.in_ok-count.count
    (counted at.In_ok-count) (length c.args.key.now) c.requires.short (search rules)

pub returns-then-is_some : goal.returns-then-is_some
returns-then-is_some c =
    let v = c.args in
    let f = v.file.now in
    let hit = sym (ap is_some c.find_in_block-found.ensures) ∙ sym c.is_some.ensures ∙ c.if-is_some.true in
    ap Ok (c.find_in_block-found.ensures
    ∙ sym (c.loop-block.invariant.1
    ∙ ap (first_with f.bytes.now f.shape v.key.now) (records (goal.at.returns-then-is_some c).In_ok-count)
    ∙ first_hit f.bytes.now f.shape v.key.now _ (places_from c.loop-block.block 0 c.in_ok-count.count) hit))

pub next_of-block-requires : goal.next_of-block-requires
next_of-block-requires c =
    let f = c.args.file.now in
    let b = here (goal.at.next_of-block-requires c).In-loop-block in
    (b.low, b.high, head_inside f.bytes.now f.shape f.sound c.loop-block.block b.low b.high)

pub loop-block-smaller : goal.loop-block-smaller
loop-block-smaller c =
    let f = c.args.file.now in
    rw c.next_of-block.ensures
    (from_fewer f.bytes.now f.shape c.loop-block.block c.loop-block-test.true c.loop-block.invariant.0)

pub loop-block-preserved : goal.loop-block-preserved
loop-block-preserved c =
    let v = c.args in
    let f = v.file.now in
    let miss = sym (ap is_some c.find_in_block-found.ensures) ∙ sym c.is_some.ensures ∙ c.if-is_some.false in
    rw c.next_of-block.ensures (
      (here (goal.at.loop-block-preserved c).In-loop-block).onward,
      c.loop-block.invariant.1
          ∙ ap (first_with f.bytes.now f.shape v.key.now) (records (goal.at.loop-block-preserved c).In_ok-count)
          ∙ first_miss f.bytes.now f.shape v.key.now _ (places_from c.loop-block.block 0 c.in_ok-count.count) miss,
    )

pub returns : goal.returns
unfolding first_with
returns c =
    let v = c.args in
    let f = v.file.now in
    let l = c.loop-block in
    ap Ok (sym (l.invariant.1 ∙ ap (first_with f.bytes.now f.shape v.key.now)
    (records_none f.bytes.now f.shape l.block c.loop-block-test.false l.invariant.0)))
