-- `is_unmarked` meets its contract, answer by answer. Assumes nothing.
use borrow.Author.Tests.{le-leb, lt-leb}
use Rattle.blocks.specs.Shape.{in_file}
use Rattle.chain.specs.Marks.{is_unmarked}
use Rattle.chain.proofs.marks.is_unmarked.Goals as goal

pub returns-then-block-lt1 : goal.returns-then-block-lt1
unfolding is_unmarked in_file
returns-then-block-lt1 c = simp (lt-leb _ _ c.if-block-lt1.true)

pub returns-then-marks-block : goal.returns-then-marks-block
unfolding is_unmarked in_file
returns-then-marks-block c = simp (le-leb _ _ c.if-block-lt1.false, lt-leb _ _ c.if-marks-block.true)

pub returns : goal.returns
unfolding is_unmarked in_file
returns c = simp (le-leb _ _ c.if-block-lt1.false, le-leb _ _ c.if-marks-block.false)
