-- `unpack` meets its contract: it takes the parts that the definition takes. Assumes nothing.
use Rattle.std.proofs.Common.{refl}
use Rattle.numbers.specs.Cursor.{cursor_in}
use Rattle.numbers.proofs.cursors.unpack.Goals as goal

pub returns : goal.returns
unfolding cursor_in
returns c = refl
