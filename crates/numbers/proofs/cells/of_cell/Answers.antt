-- `of_cell` meets its contract. Assumes nothing.
use Rattle.std.proofs.Common.{◌∙◌, ap, length, lit≤}
use Rattle.header.specs.Numbers.{numbers_of}
use Rattle.cell.specs.Reading.{block_cell}
use Rattle.numbers.specs.Lent.{given}
use Rattle.numbers.specs.Cells.{cell_given, cell_numbers}
use Rattle.numbers.proofs.LentLaws.{room_long}
use Rattle.numbers.proofs.CellLaws.{given_long}
use Rattle.numbers.proofs.cells.of_cell.Goals as goal

pub give-requires : goal.give-requires
give-requires c =
    let v = c.args in
    let t = v.table.now in
    let cell = block_cell t (numbers_of t) v.block v.place v.field in
    (lit≤ tt, room_long t (length v.four.now) 4 (cell_given cell) _ c.cell_answer-answer.ensures (given_long cell))

pub returns : goal.returns
unfolding cell_numbers
returns c = c.give.ensures ∙ ap (given c.args.four.now) c.cell_answer-answer.ensures
