-- `put_cells` meets its contract: after each field its cell is put behind the others. Assumes nothing.
use Rattle.std.proofs.Common.{◌+◌, ◌*◌, ◌≤◌, length, refl, ap, ◌∙◌, arith, rules}
use Rattle.header.specs.Fields.{width_at}
use Rattle.buffer.proofs.PieceLaws.{wrote_length}
use Rattle.numbers.proofs.CellLaws.{cell_four}
use Rattle.numbers.proofs.RecordLaws.{pair_finite, run_begins, run_room}
use Rattle.numbers.proofs.RecordLaws.{run_inside, run_cell, run_more, run_ends}
use Rattle.numbers.proofs.run.put_cells.Goals as goal
use Rattle.numbers.proofs.run.put_cells.Goals.{In-loop-field}

pub loop-field-init : goal.loop-field-init
loop-field-init c =
    let v = c.args in
    (refl, run_begins v.table.now v.run.area v.run.fields v.run.start v.cells.now)

pub overflow_mul-pair : goal.overflow_mul-pair
overflow_mul-pair c = omega (arith, c.requires.inside.pairs)

pub overflow_add-pair : goal.overflow_add-pair
overflow_add-pair c = omega (arith, c.requires.inside.pairs)

pub overflow_add-width : goal.overflow_add-width
overflow_add-width c = omega (arith, c.requires.inside.pairs)

-- the next cell is inside the table
inside : (c : In-loop-field) → c.loop-field.at
    + width_at c.args.table.now c.args.run.area
    c.loop-field.field ≤ length c.args.table.now
inside c =
    let k = c.loop-field in
    let v = c.args in
    run_inside v.table.now v.run.area v.run.fields v.run.start v.cells.now k.cells k.at k.end k.field
    k.invariant.1 c.requires.inside c.loop-field-test.true

pub bounds-table-pair : goal.bounds-table-pair
bounds-table-pair c = omega (arith, c.requires.inside.pairs, c.loop-field-test.true)

pub overflow_cast-width : goal.overflow_cast-width
overflow_cast-width c = omega (arith, c.type_inv.table (c.args.run.area + 2 * c.loop-field.field + 1))

pub bounds-table-pair-in-loop-field : goal.bounds-table-pair-in-loop-field
bounds-table-pair-in-loop-field c = omega (arith, c.requires.inside.pairs, c.loop-field-test.true)

pub cell_by_pair-cell-requires : goal.cell_by_pair-cell-requires
cell_by_pair-cell-requires c =
    record {
      known = c.requires.inside.known c.loop-field.field c.loop-field-test.true;
      width_in_bounds = inside (goal.at.cell_by_pair-cell-requires c).In-loop-field;
    }

pub cell_list-requires : goal.cell_list-requires
cell_list-requires c = pair_finite _ _ _ _ _ c.cell_by_pair-cell.ensures

pub put-end-requires : goal.put-end-requires
put-end-requires c =
    let k = c.loop-field in
    let v = c.args in
    run_room v.table.now v.run.area v.run.fields v.run.start v.cells.now k.cells k.at k.end k.field
    k.invariant.1 (search rules) c.requires.fields_in_bounds _ (ap length c.cell_list.ensures ∙ cell_four _)

pub overflow_add-at : goal.overflow_add-at
overflow_add-at c = omega (arith, inside (goal.at.overflow_add-at c).In-loop-field)

pub loop-field-preserved : goal.loop-field-preserved
loop-field-preserved c =
    let k = c.loop-field in
    let v = c.args in
    let is = run_cell v.table.now v.run.area v.run.fields v.run.start v.cells.now k.cells k.at k.end
    k.field k.invariant.1 c.cell_by_pair-cell.result
    c.cell_by_pair-cell.ensures in (
      wrote_length c.put-end.ensures ∙ k.invariant.0,
      run_more v.table.now v.run.area v.run.fields v.run.start v.cells.now k.cells k.at k.end k.field
          k.invariant.1 (search rules) _ _ _ _ is c.cell_list.ensures c.put-end.ensures,
    )

pub returns : goal.returns
returns c =
    let l = c.loop-field in
    let v = c.args in
    run_ends v.table.now v.run.area v.run.fields v.run.start v.cells.now l.cells l.at l.end l.field
    l.invariant.1 (search rules) c.requires.fields_in_bounds
