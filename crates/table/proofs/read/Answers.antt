-- `read` meets its contract: the header's refusal, that of the check behind it, or the table. Assumes nothing.
use mathlib.Core.Path.{refl, ap, ◌∙◌}
use lib.ListN.{length}
use Rattle.std.specs.Prelude.{Ok, Err}
use Rattle.std.proofs.lemmas.Result.{err_from_is_err_and}
use Rattle.header.specs.Opened.{header_in}
use Rattle.header.proofs.AcceptedLaws.{read_numbers}
use Rattle.table.proofs.CheckLaws.{header_refused, checked_blocks, header_as_refused, header_as_kept}
use Rattle.table.proofs.read.Goals as goal

pub returns-in_err-table : goal.returns-in_err-table
returns-in_err-table c =
    let v = c.args in
    let p = err_from_is_err_and c.from_residual.result c.from_residual.ensures.1 in
    let b = header_refused v.bytes.now v.marks.now _ c.in_err-table.ensures.its_header refl in
    record {
      value = ap header_in (p.1 ∙ ap Err p.2) ∙ header_as_refused v.bytes.now (length v.marks.now) b.0;
      its_bytes = rw p.1 tt;
      marks_after = b.1;
    }

-- where the header is accepted

pub returns-in_err-check_blocks : goal.returns-in_err-check_blocks
returns-in_err-check_blocks c =
    let v = c.args in
    let r = c.from_residual-in_err-check_blocks in
    let p = err_from_is_err_and r.result r.ensures.1 in
    let o = c.in_ok-table.ensures in
    let b = checked_blocks v.bytes.now v.marks.now _ o.its_header refl (Err _) _
    (rw o.its_bytes at c.in_err-check_blocks.ensures.value)
    (rw o.its_bytes at c.in_err-check_blocks.ensures.marks_after) in
    record {
      value = ap header_in (p.1 ∙ ap Err p.2) ∙ header_as_refused v.bytes.now (length v.marks.now) b.0;
      its_bytes = rw p.1 tt;
      marks_after = b.1;
    }

pub returns : goal.returns
returns c =
    let v = c.args in
    let o = c.in_ok-table.ensures in
    let b = checked_blocks v.bytes.now v.marks.now _ o.its_header refl (Ok _) _
    (rw o.its_bytes at c.in_ok-check_blocks.ensures.value)
    (rw o.its_bytes at c.in_ok-check_blocks.ensures.marks_after) in
    record {
      value =
          ap Ok (read_numbers v.bytes.now _ o.its_header refl)
          ∙ header_as_kept v.bytes.now (length v.marks.now) b.0;
      its_bytes = o.its_bytes;
      marks_after = b.1;
    }
