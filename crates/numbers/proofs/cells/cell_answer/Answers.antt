-- `cell_answer` meets its contract: 1 to 7, 14, then the cell's value or its refusal. Assumes nothing.
use Rattle.std.proofs.Common.{refl, sym, ◌∙◌}
use Rattle.header.specs.Numbers.{numbers_of}
use Rattle.cell.specs.Reading.{block_cell}
use Rattle.numbers.specs.Cells.{cell_given}
use Rattle.numbers.proofs.LentLaws.{leaves, room_err, room_asked}
use Rattle.numbers.proofs.CellLaws.{its_finite, given_value, given_refusal, read_cell_finite}
use Rattle.numbers.proofs.cells.cell_answer.Goals as goal

pub returns-in_err-opened : goal.returns-in_err-opened
returns-in_err-opened c =
    let v = c.args in
    let t = v.table.now in
    let its = cell_given (block_cell t (numbers_of t) v.block v.place v.field) in
    leaves _ c.from_residual.ensures.1 ∙ sym (room_err t v.room 4 its c.in_err-opened.ensures.its_header)

pub returns-in_err-value : goal.returns-in_err-value
returns-in_err-value c =
    let v = c.args in
    let o = c.in_ok-opened.ensures in
    leaves _ c.from_residual-in_err-value.ensures.1
    ∙ sym (given_refusal _ _ (sym c.in_err-value.ensures))
    ∙ room_asked (λ t h. cell_given (block_cell t h v.block v.place v.field)) v.table v.room 4
    _ o.its_header _ o.its_bytes

pub value_list-requires : goal.value_list-requires
value_list-requires c =
    let v = c.args in
    let t = c.in_ok-opened.opened in
    its_finite _ _ refl
    (read_cell_finite t.bytes.now t.header t.accepted v.block v.place v.field _ c.in_ok-value.ensures)

pub returns : goal.returns
returns c =
    let v = c.args in
    let o = c.in_ok-opened.ensures in
    rw c.value_list.ensures (sym (given_value _ _ (sym c.in_ok-value.ensures))
    ∙ room_asked (λ t h. cell_given (block_cell t h v.block v.place v.field)) v.table v.room 4
    _ o.its_header _ o.its_bytes)
