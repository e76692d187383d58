-- `check` meets its contract: 1 to 7, then the check behind them. Assumes nothing.
use mathlib.Core.Path.{refl, ap, ◌∙◌}
use Rattle.std.specs.Prelude.{Err}
use Rattle.std.proofs.lemmas.Result.{err_from_is_err_and}
use Rattle.table.proofs.CheckLaws.{header_refused, checked_blocks}
use Rattle.table.proofs.check.Goals as goal

pub returns-in_err-opened : goal.returns-in_err-opened
returns-in_err-opened c =
    let v = c.args in
    let p = err_from_is_err_and c.from_residual.result c.from_residual.ensures.1 in
    let b = header_refused v.bytes.now v.marks.now _ c.in_err-opened.ensures.its_header refl in
    record { value = p.1 ∙ ap Err p.2 ∙ b.0; marks_after = b.1 }

pub returns : goal.returns
returns c =
    let v = c.args in
    let o = c.in_ok-opened.ensures in
    let b = checked_blocks v.bytes.now v.marks.now _ o.its_header refl c.check_blocks.result _
    (rw o.its_bytes at c.check_blocks.ensures.value) (rw o.its_bytes at c.check_blocks.ensures.marks_after) in
    record { value = b.0; marks_after = b.1 }
