-- `put_cells` meets its contract: before field f the first f - 1 cells are put. Assumes nothing.
use mathlib.Core.Path.{◌≡◌, refl, ap, ◌∙◌}
use Prim.Native.Nat.{◌+◌, ◌-◌}
use native.Mathlib.Omega.{arith}
use borrow.Author.Rules.{rules}
use Rattle.buffer.specs.Pieces.{Wrote}
use Rattle.buffer.proofs.PieceLaws.{wrote_then, wrote_length, room_then, room_as, wrote_as}
use Rattle.listing.specs.Listing.{cells_text}
use Rattle.listing.proofs.LineLaws.{no_cells, cells_step, cell_printable, room_few}
use Rattle.listing.proofs.cells.put_cells.Goals as goal
use Rattle.listing.proofs.cells.put_cells.Goals.{After-put_cell-end}

pub loop-field-init : goal.loop-field-init
loop-field-init c = (omega arith, refl, no_cells _ _ _ _ _ _)

pub put_cell-end-requires : goal.put_cell-end-requires
put_cell-end-requires c =
    let v = c.args in
    let q = c.loop-field in
    let t = v.table.now.bytes.now in
    let h = v.table.now.header in
    let r = room_few t h v.block v.place q.field h.fields (search rules) c.requires in
    let e = cells_step t h v.block v.place q.field _ q.auto.field c.read_in-cell.ensures in
    record {
      room = room_then (cells_text t h v.block v.place (q.field - 1)) _ (room_as e r) q.invariant.2;
      printable_cell = cell_printable t h v.table.now.accepted v.block v.place q.field _ c.read_in-cell.ensures;
    }

-- the cells as far as this one
so_far : (c : After-put_cell-end) → let v = c.args in
    let t = v.table.now in
    Wrote v.out.now v.at (cells_text t.bytes.now t.header v.block v.place c.loop-field.field) c.put_cell-end.new.out
    c.put_cell-end.result
so_far c =
    let v = c.args in
    let t = v.table.now in
    let q = c.loop-field in
    let e = cells_step t.bytes.now t.header v.block v.place q.field _ q.auto.field c.read_in-cell.ensures in
    wrote_as e (wrote_then _ _ q.invariant.2 c.put_cell-end.ensures)

pub loop-field-preserved : goal.loop-field-preserved
loop-field-preserved c =
    let v = c.args in
    let t = v.table.now in
    let q = c.loop-field in
    let e : q.field ≡ q.field + 1 - 1 = omega arith in
    let w = so_far (goal.at.loop-field-preserved c).After-put_cell-end in (
      search rules,
      wrote_length c.put_cell-end.ensures ∙ q.invariant.1,
      wrote_as (ap (cells_text t.bytes.now t.header v.block v.place) e) w,
    )

pub returns : goal.returns
returns c =
    let v = c.args in
    let t = v.table.now in
    let q = c.loop-field in
    let e : q.field - 1 ≡ t.header.fields = omega (arith, q.invariant.0, c.loop-field-test.false) in
    wrote_as (ap (cells_text t.bytes.now t.header v.block v.place) e) q.invariant.2

pub returns-2 : goal.returns-2
returns-2 c =
    let v = c.args in
    let t = v.table.now in
    let q = c.loop-field in
    let e : q.field ≡ t.header.fields = search (rules, arith) in
    let w = so_far (goal.at.returns-2 c).After-put_cell-end in
    wrote_as (ap (cells_text t.bytes.now t.header v.block v.place) e) w
