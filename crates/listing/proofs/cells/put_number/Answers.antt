-- `put_number` meets its contract: a finite number is no not-a-number. Assumes nothing.
use Rattle.cell.proofs.DoubleLaws.{finite_number}
use Rattle.listing.proofs.cells.put_number.Goals as goal

pub float_to_bits-x : goal.float_to_bits-x
float_to_bits-x c = finite_number _ c.requires.x_value
