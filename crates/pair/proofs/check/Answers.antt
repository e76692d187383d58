-- `check` meets its contract: the table check, 13, 21 to 26, then the tree. Assumes nothing.
use mathlib.Core.Path.{sym, ◌∙◌}
use lib.ListN.{length}
use Rattle.pair.proofs.CheckLaws.{leaves, read_refused, read_unkeyed, read_unindexed, read_paired, read_unfit}
use Rattle.pair.proofs.CheckLaws.{read_fits}
use Rattle.pair.proofs.check.Goals as goal

pub returns-in_err-table-clause-value : goal.returns-in_err-table-clause-value
returns-in_err-table-clause-value c =
    let v = c.args in
    let read = c.in_err-table.ensures in
    leaves _ c.from_residual.ensures.1
    ∙ read_refused v.table.now v.index.now (length v.marks.now) read.value

pub returns-then-table-eq0-clause-value : goal.returns-then-table-eq0-clause-value
returns-then-table-eq0-clause-value c =
    let v = c.args in
    let read = c.in_ok-table.ensures in
    read_unkeyed v.table.now v.index.now (length v.marks.now) read.value c.if-table-eq0.true

pub returns-in_err-i-clause-value : goal.returns-in_err-i-clause-value
returns-in_err-i-clause-value c =
    let v = c.args in
    let read = c.in_ok-table.ensures in
    leaves _ c.from_residual-in_err-i.ensures.1
    ∙ read_unindexed v.table.now v.index.now (length v.marks.now) read.value c.if-table-eq0.false
    c.in_err-i.ensures

pub tree_fits-requires : goal.tree_fits-requires
tree_fits-requires c =
    let v = c.args in
    rw c.in_ok-table.ensures.its_bytes
    (read_paired v.table.now v.index.now (length v.marks.now) c.in_ok-table.ensures.value c.if-table-eq0.false
    c.in_ok-i.ensures)

pub returns-then-not-tree_fits-clause-value : goal.returns-then-not-tree_fits-clause-value
returns-then-not-tree_fits-clause-value c =
    let v = c.args in
    let read = c.in_ok-table.ensures in
    read_unfit v.table.now v.index.now (length v.marks.now) read.value c.if-table-eq0.false c.in_ok-i.ensures
    (sym (rw read.its_bytes at c.tree_fits.ensures) ∙ c.if-not-tree_fits.true)

pub returns-clause-value : goal.returns-clause-value
returns-clause-value c =
    let v = c.args in
    let read = c.in_ok-table.ensures in
    read_fits v.table.now v.index.now (length v.marks.now) read.value c.if-table-eq0.false c.in_ok-i.ensures
    (sym (rw read.its_bytes at c.tree_fits.ensures) ∙ c.if-not-tree_fits.false)
