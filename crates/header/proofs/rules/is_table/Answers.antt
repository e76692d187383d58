-- `is_table` meets its contract. Assumes nothing.
use mathlib.Core.Path.{refl}
use Rattle.header.specs.Header.{is_table}
use Rattle.header.proofs.rules.is_table.Goals as goal

pub returns : goal.returns
unfolding is_table
returns c = refl
