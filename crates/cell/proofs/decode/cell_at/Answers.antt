-- `cell_at` meets its contract: what search leaves, the bounds of a number that was read, and the arm of a blob, which
-- is not reached. Assumes nothing.
use native.Mathlib.Omega.{arith}
use mathlib.Core.Path.{ap}
use Rattle.words.specs.Numbers.{Bytes}
use Rattle.header.specs.Kinds.{is_blob}
use Rattle.cell.proofs.ReadingLaws.{number_below, cell_blob}
use Rattle.cell.proofs.decode.cell_at.Goals as goal
use Rattle.cell.proofs.decode.cell_at.Goals.{Else-is_blob}

-- the table's items are bytes
bytes : (c : Else-is_blob) → Bytes c.args.t.now
bytes c i = omega (arith, c.type_inv.t i)

pub date_of-requires : goal.date_of-requires
date_of-requires c =
    let v = c.args in
    number_below v.t.now v.at 4 (bytes (goal.at.date_of-requires c).Else-is_blob) c.number.result
    c.number.ensures

pub short_of-requires : goal.short_of-requires
short_of-requires c =
    let v = c.args in
    number_below v.t.now v.at 2 (bytes (goal.at.short_of-requires c).Else-is_blob) c.number-in-Short.result
    c.number-in-Short.ensures

pub long_of-requires : goal.long_of-requires
long_of-requires c =
    let v = c.args in
    number_below v.t.now v.at 4 (bytes (goal.at.long_of-requires c).Else-is_blob) c.number-in-Long.result
    c.number-in-Long.ensures

pub returns-in-Blob : goal.returns-in-Blob
unfolding is_blob
returns-in-Blob c =
    let v = c.args in
    cell_blob v.kind v.t.now v.at v.width (ap is_blob c.in-Blob.is)
