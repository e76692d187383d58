-- `read_in` meets its contract: what step 1 and step 2 of locating refuse, then the cell, which they place inside the
-- table. Assumes nothing.
use mathlib.Core.Path.{◌≡◌, sym, ◌∙◌}
use Rattle.std.specs.Prelude.{Some}
use Rattle.header.specs.declared.refusal.Refusal.TheVariants.{BadArgument}
use Rattle.blocks.specs.Shape.{shape_of}
use Rattle.cell.specs.Locating.{field_at, place_at}
use Rattle.cell.proofs.Exits.{refused_early, missing_early}
use Rattle.cell.proofs.LocatingLaws.{block_found, located}
use Rattle.cell.proofs.ReadingLaws.{block_missing, block_refused, block_cell_lem}
use Rattle.cell.proofs.read_in.Goals as goal
use Rattle.cell.proofs.read_in.Goals.{In_ok-found, After-place_in}

pub returns-in_err-found : goal.returns-in_err-found
returns-in_err-found c =
    let v = c.args in
    let t = v.table.now in
    let p = missing_early c.field_in.result BadArgument _ _ c.in_err-found.ensures.value c.from_residual.ensures.1 in
    p.1 ∙ block_missing t.bytes.now t.header v.block v.place v.field (sym c.field_in.ensures ∙ p.0)

-- step 1 has found the field
found : (c : In_ok-found) → let v = c.args in
    field_at v.table.now.bytes.now v.table.now.header v.block v.field ≡ Some c.in_ok-found.found
found c = sym c.field_in.ensures ∙ c.in_ok-found.ensures.ok_part

pub place_in-requires : goal.place_in-requires
place_in-requires c =
    let v = c.args in
    let t = v.table.now in
    let d = c.in_ok-found.found in
    let q = block_found t.bytes.now t.header t.accepted v.block v.field d.kind d.width d.offset
    (found (goal.at.place_in-requires c).In_ok-found) in
    rw c.of-file.ensures.shape (q.0, q.1)

-- step 2 is asked of the table's blocks
placed : (c : After-place_in) → let v = c.args in
    let t = v.table.now in
    place_at t.bytes.now (shape_of t.header) v.block v.place c.in_ok-found.found.offset ≡ c.place_in.result
placed c = sym (rw (← c.of-file.ensures.shape, ← c.of-file.ensures.bytes) c.place_in.ensures)

pub returns-in_err-at : goal.returns-in_err-at
returns-in_err-at c =
    let v = c.args in
    let t = v.table.now in
    let d = c.in_ok-found.found in
    let p = goal.at.returns-in_err-at c in
    refused_early _ c.from_residual-in_err-at.result c.from_residual-in_err-at.ensures.1
    ∙ block_refused t.bytes.now t.header v.block v.place v.field d.kind d.width d.offset (found p.In_ok-found) _
    (placed p.After-place_in ∙ c.in_err-at.was)

pub cell_at-requires : goal.cell_at-requires
cell_at-requires c =
    let v = c.args in
    let t = v.table.now in
    let d = c.in_ok-found.found in
    let p = goal.at.cell_at-requires c in
    let l = located t.bytes.now t.header t.accepted v.block v.field d.kind d.width d.offset (found p.In_ok-found)
    v.place c.in_ok-at.at (placed p.After-place_in ∙ c.in_ok-at.was) in
    (l.permitted, l.inside)

pub returns : goal.returns
returns c =
    let v = c.args in
    let t = v.table.now in
    let d = c.in_ok-found.found in
    let p = goal.at.returns c in
    c.cell_at.ensures
    ∙ block_cell_lem t.bytes.now t.header v.block v.place v.field d.kind d.width d.offset (found p.In_ok-found)
    c.in_ok-at.at (placed p.After-place_in ∙ c.in_ok-at.was)
