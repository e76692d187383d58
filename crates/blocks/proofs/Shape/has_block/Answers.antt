-- `has_block` meets its contract. Assumes nothing.
use mathlib.Core.Path.{refl}
use Rattle.blocks.specs.Shape.{in_file, has_block}
use Rattle.blocks.proofs.Shape.has_block.Goals as goal

pub returns : goal.returns
unfolding has_block in_file
returns c = refl
