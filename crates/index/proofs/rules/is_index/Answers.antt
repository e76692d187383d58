-- `is_index` meets its contract. Assumes nothing.
use mathlib.Core.Path.{refl}
use Rattle.index.specs.Header.{is_index}
use Rattle.index.proofs.rules.is_index.Goals as goal

pub returns : goal.returns
unfolding is_index
returns c = refl
