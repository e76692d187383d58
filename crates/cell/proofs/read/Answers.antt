-- `read` meets its contract: 1 to 7, then the cell of an accepted table. Assumes nothing.
use mathlib.Core.Path.{refl, ap, ◌∙◌}
use mathlib.Core.List.{List}
use Prim.Native.Nat.{ℕ}
use Rattle.std.proofs.Common.{Bor}
use Rattle.cell.specs.Reading.{block_cell}
use Rattle.cell.proofs.Exits.{refused_early}
use Rattle.cell.proofs.ReadingLaws.{cell_refused, cell_read, answers}
use Rattle.cell.proofs.read.Goals as goal

pub returns-in_err-opened : goal.returns-in_err-opened
returns-in_err-opened c =
    let v = c.args in
    let both_clauses = answers v.table.now v.block v.place v.field c.from_residual.result
    (refused_early _ c.from_residual.result c.from_residual.ensures.1
    ∙ cell_refused v.table.now v.block v.place v.field _ c.in_err-opened.ensures.its_header refl) in
    record { value = both_clauses.0; result_value = both_clauses.1 }

pub returns : goal.returns
returns c =
    let v = c.args in
    let h = c.in_ok-opened.opened.header in
    let o = c.in_ok-opened.ensures in
    let both_clauses = answers v.table.now v.block v.place v.field c.read_in.result
    (c.read_in.ensures
    ∙ ap (λ (b : Bor (List ℕ)). block_cell b.now h v.block v.place v.field) o.its_bytes
    ∙ cell_read v.table.now v.block v.place v.field _ o.its_header refl) in
    record { value = both_clauses.0; result_value = both_clauses.1 }
