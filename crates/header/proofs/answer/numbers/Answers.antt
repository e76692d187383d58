-- `numbers` meets its contract, number by number. Assumes nothing.
use Rattle.header.specs.Numbers.{numbers_with}
use Rattle.header.proofs.answer.numbers.Goals as goal

pub returns : goal.returns
unfolding numbers_with
returns c = rw (c.names_at.ensures, c.area_at.ensures, c.block_bytes.ensures)
