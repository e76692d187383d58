-- `find_in` meets its contract: what step 1 and step 2 of locating refuse, 13 for a field of another kind between them,
-- then the blob of the cell, which they place inside the table. Assumes nothing.
use mathlib.Core.Path.{◌≡◌, sym, ◌∙◌}
use mathlib.Core.Bool.{true}
use Rattle.std.specs.Prelude.{Some, Ok, Err}
use borrow.Author.Rules.{rules}
use Rattle.header.specs.Kinds.{is_blob}
use Rattle.header.specs.declared.refusal.Refusal.TheVariants.{BadArgument}
use Rattle.blocks.specs.Shape.{shape_of}
use Rattle.cell.specs.Locating.{field_at, place_at}
use Rattle.cell.proofs.LocatingLaws.{block_found, located}
use Rattle.blob.specs.Blob.{Answer}
use Rattle.blob.proofs.BlobLaws.{blob_width, block_missing, block_other, block_refused, block_blob_lem}
use Rattle.blob.proofs.find_in.Goals as goal
use Rattle.blob.proofs.find_in.Goals.{Else-not-is_blob, In_ok-found, In_ok-at}

pub returns-in_err-found : goal.returns-in_err-found
returns-in_err-found c =
    let v = c.args in
    let t = v.table.now in
    let q : ◌≡◌ {A = Answer} c.from_residual.result (Err BadArgument) = search rules in
    q
    ∙ block_missing t.bytes.now v.mb.now t.header v.block v.place v.field
    (sym c.field_in.ensures ∙ c.in_err-found.ensures.ok_part)

-- step 1 has found the field
found : (c : In_ok-found) → let v = c.args in let t = v.table.now in
    field_at t.bytes.now t.header v.block v.field ≡ Some c.in_ok-found.found
found c = sym c.field_in.ensures ∙ c.in_ok-found.ensures.ok_part

pub returns-then-not-is_blob : goal.returns-then-not-is_blob
returns-then-not-is_blob c =
    let v = c.args in
    let t = v.table.now in
    let d = c.in_ok-found.found in
    block_other t.bytes.now v.mb.now t.header v.block v.place v.field d.kind d.width d.offset
    (found (goal.at.returns-then-not-is_blob c).In_ok-found) (sym c.is_blob.ensures ∙ c.if-not-is_blob.true)

-- and it is of blobs
blob : (c : Else-not-is_blob) → is_blob c.in_ok-found.found.kind ≡ true
blob c = sym c.is_blob.ensures ∙ c.if-not-is_blob.false

pub place_in-requires : goal.place_in-requires
place_in-requires c =
    let v = c.args in
    let t = v.table.now in
    let d = c.in_ok-found.found in
    let b = block_found t.bytes.now t.header t.accepted v.block v.field d.kind d.width d.offset
    (found (goal.at.place_in-requires c).In_ok-found) in
    rw c.of.ensures.shape (b.0, b.1)

pub returns-in_err-at : goal.returns-in_err-at
returns-in_err-at c =
    let v = c.args in
    let t = v.table.now in
    let d = c.in_ok-found.found in
    let p = goal.at.returns-in_err-at c in
    let r = sym (rw (c.of.ensures.shape, c.of.ensures.bytes) at c.in_err-at.ensures) in
    let q : ◌≡◌ {A = Answer} c.from_residual-in_err-at.result (Err c.in_err-at.field-0.0) = search rules in
    q
    ∙ block_refused t.bytes.now v.mb.now t.header v.block v.place v.field d.kind d.width d.offset
    (found p.In_ok-found) (blob p.Else-not-is_blob) _ r

-- step 2 has placed the cell
placed : (c : In_ok-at) → let v = c.args in let t = v.table.now in
    place_at t.bytes.now (shape_of t.header) v.block v.place c.in_ok-found.found.offset ≡ Ok c.in_ok-at.at
placed c = sym (rw (c.of.ensures.shape, c.of.ensures.bytes) at c.in_ok-at.ensures)

pub blob_at-requires : goal.blob_at-requires
blob_at-requires c =
    let v = c.args in
    let t = v.table.now in
    let d = c.in_ok-found.found in
    let p = goal.at.blob_at-requires c in
    let l = located t.bytes.now t.header t.accepted v.block v.field d.kind d.width d.offset (found p.In_ok-found)
    v.place c.in_ok-at.at (placed p.In_ok-at) in
    (blob_width d.kind d.width (blob p.Else-not-is_blob) l.permitted, l.inside)

pub returns : goal.returns
returns c =
    let v = c.args in
    let t = v.table.now in
    let d = c.in_ok-found.found in
    let p = goal.at.returns c in
    c.blob_at.ensures
    ∙ block_blob_lem t.bytes.now v.mb.now t.header v.block v.place v.field d.kind d.width d.offset
    (found p.In_ok-found) (blob p.Else-not-is_blob) c.in_ok-at.at (placed p.In_ok-at)
