-- `shape_of` meets its contract. Assumes nothing.
use mathlib.Core.Path.{refl}
use Rattle.blocks.specs.Shape.{shape_of}
use Rattle.blocks.proofs.Shape.of.Goals as goal

pub returns : goal.returns
unfolding shape_of
returns c = refl
