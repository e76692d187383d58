-- `root_right` meets its contract: its tests are those of the definition. Assumes nothing.
use mathlib.Core.Path.{refl}
use Rattle.blocks.specs.Shape.{in_file}
use Rattle.index.specs.Header.{root_right}
use Rattle.index.proofs.rules.root_right.Goals as goal

pub returns : goal.returns
unfolding root_right in_file
returns c = refl
