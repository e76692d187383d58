-- `Cursor::at_end` meets its contract. Assumes nothing.
use mathlib.Core.Path.{refl}
use Rattle.cursor.specs.Cursor.{at_end}
use Rattle.cursor.proofs.Cursor.at_end.Goals as goal

pub returns : goal.returns
unfolding at_end
returns c = refl
