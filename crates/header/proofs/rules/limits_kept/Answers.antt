-- `limits_kept` meets its contract: its tests are those of the definition. Assumes nothing.
use Rattle.header.specs.Header.{limits_kept}
use Rattle.header.proofs.rules.limits_kept.Goals as goal

pub returns : goal.returns
unfolding limits_kept
returns c =
    rw (
      c.is_keyed_right.ensures,
      c.block_size-block.ensures,
    )
