-- `is_keyed_right` meets its contract, with key fields and without. Assumes nothing.
use borrow.Author.Tests.{le-leb, lt-leb}
use Rattle.header.specs.Header.{keyed_right}
use Rattle.header.proofs.rules.is_keyed_right.Goals as goal

pub returns-then-s-ge1 : goal.returns-then-s-ge1
unfolding keyed_right
returns-then-s-ge1 c = rw (le-leb _ _ c.if-s-ge1.true)

pub returns : goal.returns
unfolding keyed_right
returns c = rw (lt-leb _ _ c.if-s-ge1.false)
