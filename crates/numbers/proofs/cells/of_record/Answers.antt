-- `of_record` meets its contract: refused, or the cells in front. Assumes nothing.
use Rattle.std.proofs.Common.{◌∙◌}
use Rattle.numbers.proofs.RecordLaws.{record_refused, run_found}
use Rattle.numbers.proofs.cells.of_record.Goals as goal

pub put_cells-requires : goal.put_cells-requires
put_cells-requires c =
    let v = c.args in
    let r = run_found v.table.now v.block v.place v.cells.now c.in-Ok.ensures in
    record { inside = r.inside; fields_in_bounds = r.fits }

pub returns-in-Ok : goal.returns-in-Ok
returns-in-Ok c =
    let v = c.args in
    c.put_cells.ensures ∙ (run_found v.table.now v.block v.place v.cells.now c.in-Ok.ensures).gives

pub returns-in-Err : goal.returns-in-Err
returns-in-Err c =
    let v = c.args in
    c.refuse.ensures ∙ record_refused v.table.now v.block v.place v.cells.now c.in-Err.ensures
