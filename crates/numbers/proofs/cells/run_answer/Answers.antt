-- `run_answer` meets its contract: 1 to 7, 14, then 13, 9, 13, or where the record begins. Assumes nothing.
use Rattle.std.proofs.Common.{◌*◌, refl, sym, ◌∙◌}
use Rattle.header.specs.Numbers.{numbers_of}
use Rattle.numbers.specs.Steps.{run_in}
use Rattle.numbers.proofs.LentLaws.{leaves, room_refused}
use Rattle.numbers.proofs.RecordLaws.{answer_short, answer_refused, answer_run}
use Rattle.numbers.proofs.cells.run_answer.Goals as goal

pub returns-in_err-opened : goal.returns-in_err-opened
returns-in_err-opened c =
    let v = c.args in
    let t = v.table.now in
    leaves _ c.from_residual.ensures.1
    ∙ sym (room_refused t v.room (4 * (numbers_of t).fields) (run_in t (numbers_of t) v.block v.place) _
    c.in_err-opened.ensures.its_header refl)

pub returns-then-room-fields : goal.returns-then-room-fields
returns-then-room-fields c =
    let v = c.args in
    answer_short v.table.now v.room v.block v.place c.in_ok-opened.ensures.its_header c.if-room-fields.true

pub returns-in_err-start : goal.returns-in_err-start
returns-in_err-start c =
    let v = c.args in
    let o = c.in_ok-opened.ensures in
    leaves _ c.from_residual-in_err-start.ensures.1
    ∙ answer_refused v.table.now v.room v.block v.place o.its_header c.if-room-fields.false
    (rw (c.of.ensures.shape, c.of.ensures.bytes, o.its_bytes) at c.in_err-start.ensures)

pub returns : goal.returns
returns c =
    let v = c.args in
    let o = c.in_ok-opened.ensures in
    answer_run v.table.now v.room v.block v.place o.its_header c.if-room-fields.false
    (rw (c.of.ensures.shape, c.of.ensures.bytes, o.its_bytes) at c.in_ok-start.ensures)
