-- `limits_kept` meets its contract: its tests are those of the definition. Assumes nothing.
use Rattle.index.specs.Header.{limits_kept}
use Rattle.index.proofs.rules.limits_kept.Goals as goal

pub returns : goal.returns
unfolding limits_kept
returns c = rw (c.root_right.ensures, c.block_size-block.ensures)
