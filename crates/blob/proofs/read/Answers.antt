-- `read` meets its contract: the part that `find` answers ends inside its file, and it is that file's, bytes and
-- address. Assumes nothing.
use native.Mathlib.Omega.{arith}
use mathlib.Core.Path.{◌≡◌, sym, ap, ◌∙◌}
use Prim.Native.Nat.{◌+◌, ◌≤◌}
use lib.ListN.{length}
use Rattle.std.specs.Prelude.{Ok}
use Rattle.blob.specs.Blob.{Answer, blob_of}
use Rattle.blob.specs.declared.answer.Blob.{Blob}
use Rattle.blob.specs.declared.answer.Blob.TheVariants.{InTable, InMb}
use Rattle.blob.proofs.PartLaws.{table_inside, mb_inside, blank_part, table_part, mb_part, refused_part}
use Rattle.blob.proofs.read.Goals as goal
use Rattle.blob.proofs.read.Goals.{In-Ok-InMb, In-Ok-InTable}

-- a part of the table
from_table : (c : In-Ok-InTable) → let v = c.args in
    blob_of v.table.now v.mb.now v.block v.place v.field ≡ Ok (InTable c.in-Ok-InTable.part)
from_table c =
    sym c.find.ensures.value ∙ c.in-Ok-InTable.is ∙ ap {B = Answer} (λ (b : Blob). Ok b) c.in-Ok-InTable.field-0-is

inside-table : (c : In-Ok-InTable) → c.in-Ok-InTable.part.start + c.in-Ok-InTable.part.len ≤ length c.args.table.now
inside-table c =
    let v = c.args in
    table_inside v.table.now v.mb.now v.block v.place v.field c.in-Ok-InTable.part (from_table c)

pub overflow_add-result : goal.overflow_add-result
overflow_add-result c = omega (arith, inside-table (goal.at.overflow_add-result c).In-Ok-InTable)

pub slice_bounds-result-end-in-Ok-InTable : goal.slice_bounds-result-end-in-Ok-InTable
slice_bounds-result-end-in-Ok-InTable c =
    inside-table (goal.at.slice_bounds-result-end-in-Ok-InTable c).In-Ok-InTable

-- a part of the MB file
from_mb : (c : In-Ok-InMb) → let v = c.args in
    blob_of v.table.now v.mb.now v.block v.place v.field ≡ Ok (InMb c.in-Ok-InMb.part)
from_mb c = sym c.find.ensures.value ∙ c.in-Ok-InMb.is ∙ ap {B = Answer} (λ (b : Blob). Ok b) c.in-Ok-InMb.field-0-is

inside-mb : (c : In-Ok-InMb) → c.in-Ok-InMb.part.start + c.in-Ok-InMb.part.len ≤ length c.args.mb.now
inside-mb c =
    let v = c.args in mb_inside v.table.now v.mb.now v.block v.place v.field c.in-Ok-InMb.part (from_mb c)

pub overflow_add-result-in-Ok-InMb : goal.overflow_add-result-in-Ok-InMb
overflow_add-result-in-Ok-InMb c =
    omega (arith, inside-mb (goal.at.overflow_add-result-in-Ok-InMb c).In-Ok-InMb)

pub slice_bounds-result-end-in-Ok-InMb : goal.slice_bounds-result-end-in-Ok-InMb
slice_bounds-result-end-in-Ok-InMb c =
    inside-mb (goal.at.slice_bounds-result-end-in-Ok-InMb c).In-Ok-InMb

pub returns-in-Ok-Blank : goal.returns-in-Ok-Blank
returns-in-Ok-Blank c =
    let v = c.args in
    let both_clauses = blank_part v.table.now v.mb.now v.table.ref_ptr v.mb.ref_ptr
    (blob_of v.table.now v.mb.now v.block v.place v.field)
    (sym c.find.ensures.value ∙ c.in-Ok-Blank.is ∙ ap {B = Answer} (λ (b : Blob). Ok b) c.in-Ok-Blank.field-0-is) in
    record { result_value = both_clauses.0; ref_ptr_value = both_clauses.1 }

pub returns-in-Ok-InTable : goal.returns-in-Ok-InTable
returns-in-Ok-InTable c =
    let v = c.args in
    let both_clauses = table_part v.table.now v.mb.now v.table.ref_ptr v.mb.ref_ptr
    (blob_of v.table.now v.mb.now v.block v.place v.field) c.in-Ok-InTable.part
    (from_table (goal.at.returns-in-Ok-InTable c).In-Ok-InTable) in
    record { result_value = both_clauses.0; ref_ptr_value = both_clauses.1 }

pub returns-in-Ok-InMb : goal.returns-in-Ok-InMb
returns-in-Ok-InMb c =
    let v = c.args in
    let both_clauses = mb_part v.table.now v.mb.now v.table.ref_ptr v.mb.ref_ptr
    (blob_of v.table.now v.mb.now v.block v.place v.field) c.in-Ok-InMb.part
    (from_mb (goal.at.returns-in-Ok-InMb c).In-Ok-InMb) in
    record { result_value = both_clauses.0; ref_ptr_value = both_clauses.1 }

pub returns-in-Err : goal.returns-in-Err
returns-in-Err c =
    let v = c.args in
    let both_clauses = refused_part v.table.now v.mb.now v.table.ref_ptr v.mb.ref_ptr
    (blob_of v.table.now v.mb.now v.block v.place v.field) c.in-Err.field-0
    (sym c.find.ensures.value ∙ c.in-Err.is) in
    record { result_value = both_clauses.0; ref_ptr_value = both_clauses.1 }
