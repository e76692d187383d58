-- `in_reach` meets its contract. Assumes nothing.
use borrow.Author.Rules.{rules}
use Rattle.cursor.specs.Cursor.{in_reach}
use Rattle.cursor.proofs.moves.in_reach.Goals as goal

pub returns : goal.returns
unfolding in_reach
returns c = record { value = rw c.has_block.ensures; fits = search rules }
