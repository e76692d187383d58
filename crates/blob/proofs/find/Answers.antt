-- `find` meets its contract: 1 to 7, then the blob of an accepted table. Assumes nothing.
use mathlib.Core.Path.{◌≡◌, refl, ap, ◌∙◌}
use Rattle.std.specs.Prelude.{Err}
use borrow.Author.Rules.{rules}
use Rattle.blob.specs.Blob.{Answer, part_numbers}
use Rattle.blob.proofs.BlobLaws.{blob_refused, blob_found}
use Rattle.blob.proofs.find.Goals as goal

pub returns-in_err-open : goal.returns-in_err-open
returns-in_err-open c =
    let v = c.args in
    let r : ◌≡◌ {A = Answer} c.from_residual.result (Err c.in_err-open.field-0.0) = search rules in
    let q = r ∙ blob_refused v.table.now v.mb.now v.block v.place v.field _ c.in_err-open.ensures.its_header refl in
    record { value = q; result_value = ap part_numbers q }

pub returns : goal.returns
returns c =
    let v = c.args in
    let o = c.in_ok-open.ensures in
    let q = rw o.its_bytes at c.find_in.ensures
    ∙ blob_found v.table.now v.mb.now v.block v.place v.field _ o.its_header refl in
    record { value = q; result_value = ap part_numbers q }
